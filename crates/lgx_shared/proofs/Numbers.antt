-- Sums and bounds of plain numbers, apart from what they count.
use Rattle.std.proofs.Common.{◌≡◌, ℕ, ◌+◌, ◌-◌, ◌<◌, ◌≤◌, arith}
use Rattle.spec_base.specs.declared.limits.TheConstants.{MAX_EVENTS}

-- there is always room for two events
pub room_for_two : (most len spare : ℕ) → len ≤ most → most + 2 ≤ len + spare → 2 ≤ spare
room_for_two most len spare a b = omega arith

pub room_for_one : (spare : ℕ) → 2 ≤ spare → 0 < spare
room_for_one spare a = omega arith

pub spent_below : (most len spent limit : ℕ) → len ≤ most → spent ≡ len → most + 2 ≤ limit → spent < limit
spent_below most len spent limit a b c = omega arith

pub spent_two_below : (most len spent limit : ℕ) → len ≤ most → spent ≡ len → most + 2 ≤ limit → spent + 2 ≤ limit
spent_two_below most len spent limit a b c = omega arith

pub in_counts : (lane lanes counts : ℕ) → lane < lanes → counts ≡ lanes → lane < counts
in_counts lane lanes counts a b = omega arith

pub count_below : (count done many limit : ℕ) → count ≡ done → done < many → many ≤ limit → count < limit
count_below count done many limit a b c = omega arith

-- the room that is left after them
pub room_after : (most len added more now spare left : ℕ) → now ≡ more → more ≡ len + added → most ≤ len + spare → spare ≤ left + added → most ≤ now + left
room_after most len added more now spare left a b c d = omega arith

pub room_at_first : (most now spare : ℕ) → now ≡ 1 → most + 2 ≤ 1 + spare → most + 2 ≤ now + spare
room_at_first most now spare a b = omega arith

-- a list with some more is longer
pub longer : (old added more now : ℕ) → now ≡ more → more ≡ old + added → 0 < added → old < now
longer old added more now a b c = omega arith

-- fewer are to come after some more
pub fewer_left : (most before after old new : ℕ) → before ≡ most → after ≡ most → new ≤ most → old < new → after - new < before - old
fewer_left most before after old new a b c d = omega arith

pub past_still : (many old added new : ℕ) → many ≤ old → new ≡ old + added → many ≤ new
past_still many old added new a b = omega arith

pub all_of_them : (count done many : ℕ) → count ≡ done → done ≤ many → many ≤ done → count ≡ many
all_of_them count done many a b c = omega arith

pub below_still : (i lanes many : ℕ) → lanes ≡ many → i < many → i < lanes
below_still i lanes many a b = omega arith

pub one_more : (room most spare : ℕ) → room ≤ spare + 1 → room ≡ most + 2 → most + 2 ≤ 1 + spare
one_more room most spare a b = omega arith

pub some_room : (room spare : ℕ) → 0 < room → room ≤ spare → 0 < spare
some_room room spare a b = omega arith

pub below_limit : (spent : ℕ) → spent ≡ 0 → spent < MAX_EVENTS
below_limit spent a = omega arith

pub enough : (room before after : ℕ) → room ≤ before → before ≤ after + 1 → room ≤ after + 1
enough room before after a b = omega arith

pub above_none : (room most : ℕ) → room ≡ most + 2 → 0 < room
above_none room most a = omega arith
