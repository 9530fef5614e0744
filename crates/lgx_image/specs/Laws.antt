-- Laws of marks and hits: what shows that they say what is meant.
use Rattle.std.specs.Prelude.{◌≡◌, ℕ, ◌/◌, ◌%◌, ◌+◌, ◌<◌, ◌≤◌, true, false, List, Bool, length}
use Rattle.lgx_num.specs.declared.place.Place.{Place}
use Rattle.lgx_num.specs.Image.{number}
use Rattle.lgx_num.specs.Number.{bytes_in}
use Rattle.lgx_image.specs.Grains.{ImageView, ChangesOnlyMarked, NoneIsHit, SameInWatched, grain_of, word_of, is_marked, mark_range}

-- no change keeps what every change keeps, and so do two, one after another
abbrev pub NoChangeNeedsMarks : Type 0
NoChangeNeedsMarks = (image : ImageView) → ChangesOnlyMarked image image

abbrev pub ChangesFollowOneAnother : Type 0
ChangesFollowOneAnother = (first second third : ImageView) → ChangesOnlyMarked first second → ChangesOnlyMarked second third → ChangesOnlyMarked first third

-- a place of which no byte lies in a marked grain has the number that it had before
abbrev pub Unmarked : List Bool → Place → Type 0
Unmarked marks p = (byte : ℕ) → p.at / 8 ≤ byte → byte < p.at / 8 + bytes_in p.kind → is_marked marks (grain_of byte) ≡ false

abbrev pub UnmarkedPlacesStay : Type 0
UnmarkedPlacesStay = (old new : ImageView) (p : Place) → ChangesOnlyMarked old new → Unmarked new.marks p → number new.bytes p ≡ number old.bytes p

-- a grain is marked if it was, or if it holds a byte of the piece, and only then
abbrev pub HoldsByte : ℕ → ℕ → ℕ → Type 0
HoldsByte grain at size = (byte : ℕ) × (at ≤ byte) × (byte < at + size) × (grain_of byte ≡ grain)

abbrev pub PieceIsMarked : Type 0
PieceIsMarked = (marks : List Bool) (at size grain : ℕ) → grain < length marks → HoldsByte grain at size → is_marked (mark_range marks at size) grain ≡ true

abbrev pub OtherMarksStay : Type 0
OtherMarksStay = (marks : List Bool) (at size grain : ℕ) → (HoldsByte grain at size → ⊥) → is_marked (mark_range marks at size) grain ≡ is_marked marks grain

-- the bytes of a place that is aligned to its size lie in one grain
abbrev pub AlignedPlaceInOneGrain : Type 0
AlignedPlaceInOneGrain = (p : Place) (byte : ℕ) → p.at / 8 % bytes_in p.kind ≡ 0 → p.at / 8 ≤ byte → byte < p.at / 8 + bytes_in p.kind → grain_of byte ≡ grain_of (p.at / 8)

-- ---- watched words

-- a change after which no word is hit leaves the bytes of watched words, no change leaves them, and so do two that leave them
abbrev pub NoHitKeepsWatched : Type 0
NoHitKeepsWatched = (old new : ImageView) → ChangesOnlyMarked old new → NoneIsHit new → SameInWatched new.watched old.bytes new.bytes

abbrev pub NoChangeKeepsWatched : Type 0
NoChangeKeepsWatched = (watched : List Bool) (bytes : List ℕ) → SameInWatched watched bytes bytes

abbrev pub TwoChangesKeepWatched : Type 0
TwoChangesKeepWatched = (watched : List Bool) (first second third : List ℕ) → SameInWatched watched first second → SameInWatched watched second third → SameInWatched watched first third

-- a place of which all bytes lie in watched words has the number that it had before
abbrev pub AllWatched : List Bool → Place → Type 0
AllWatched watched p = (byte : ℕ) → p.at / 8 ≤ byte → byte < p.at / 8 + bytes_in p.kind → is_marked watched (word_of byte) ≡ true

abbrev pub WatchedPlacesStay : Type 0
WatchedPlacesStay = (watched : List Bool) (old new : List ℕ) (p : Place) → SameInWatched watched old new → AllWatched watched p → number new p ≡ number old p

-- and so has one of which all bytes lie in watched words and none in a word that is hit
abbrev pub Unhit : List Bool → Place → Type 0
Unhit hits p = (byte : ℕ) → p.at / 8 ≤ byte → byte < p.at / 8 + bytes_in p.kind → is_marked hits (word_of byte) ≡ false

abbrev pub UnhitPlacesStay : Type 0
UnhitPlacesStay = (old new : ImageView) (p : Place) → ChangesOnlyMarked old new → AllWatched new.watched p → Unhit new.hits p → number new.bytes p ≡ number old.bytes p
