-- Watched places by their numbers, and the grains and words in which they lie.
use Rattle.std.specs.Prelude.{◌≡◌, ℕ, ◌+◌, ◌-◌, ◌/◌, ◌<◌, ◌≤◌, Bool, true, false, ◌&&◌, List, Option, nat_le, slice_index_or}
use Rattle.lgx_num.specs.declared.place.Place.{Place}
use Rattle.lgx_num.specs.Image.{number}
use Rattle.lgx_num.specs.Number.{bytes_in}
use Rattle.lgx_image.specs.Grains.{ImageView, ChangesOnlyMarked, NextMarked, word_of, is_marked}
use Rattle.lgx_image.specs.Laws.{HoldsByte, AllWatched}

-- whether a set has a number, and its least member that isn't below another number, or none
abbrev pub is_member : List Bool → ℕ → Bool
is_member set w = slice_index_or set w false

abbrev pub NextMember : List Bool → ℕ → Option ℕ → Type 0
NextMember set from found = NextMarked set from found

-- a place has a byte in a grain
abbrev pub LiesIn : Place → ℕ → Type 0
LiesIn p grain = HoldsByte grain (p.at / 8) (bytes_in p.kind)

-- and in a word
abbrev pub LiesInWord : Place → ℕ → Type 0
LiesInWord p word = (byte : ℕ) × (p.at / 8 ≤ byte) × (byte < p.at / 8 + bytes_in p.kind) × (word_of byte ≡ word)

-- this as a test: the word is one of those from the first byte's to the last byte's
abbrev pub last_word : Place → ℕ
last_word p = word_of (p.at / 8 + bytes_in p.kind - 1)

abbrev pub spans : Place → ℕ → Bool
spans p word = nat_le (word_of (p.at / 8)) word && nat_le word (last_word p)

-- ---- the laws

-- a place has no byte in a marked grain
abbrev pub LiesInNoMarked : List Bool → Place → Type 0
LiesInNoMarked marks p = (grain : ℕ) → is_marked marks grain ≡ true → LiesIn p grain → ⊥

-- a place that lies in no marked grain has the number that it had when it was last compared
abbrev pub UnmarkedWatchesStay : Type 0
UnmarkedWatchesStay = (compared now : ImageView) (p : Place) → ChangesOnlyMarked compared now → LiesInNoMarked now.marks p → number now.bytes p ≡ number compared.bytes p

-- a place has no byte in a word that is hit
abbrev pub LiesInNoHit : List Bool → Place → Type 0
LiesInNoHit hits p = (word : ℕ) → is_marked hits word ≡ true → LiesInWord p word → ⊥

-- and so has a place of watched words that lies in none that is hit
abbrev pub UnhitWatchesStay : Type 0
UnhitWatchesStay = (compared now : ImageView) (p : Place) → ChangesOnlyMarked compared now → AllWatched now.watched p → LiesInNoHit now.hits p → number now.bytes p ≡ number compared.bytes p
