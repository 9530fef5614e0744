-- The rows of an index: a row of bits for each word, and in it a bit for each watched place.
use Rattle.std.specs.Prelude.{◌≡◌, ◌≢◌, ℕ, ◌<◌, ◌≤◌, ◌⊎◌, true, false, List, [], length, slice_get, slice_index_or, Some}
use Rattle.lgx_num.specs.declared.place.Place.{Place}
use Rattle.lgx_image.specs.Words.{bit_of_words}
use Rattle.lgx_watch.specs.declared.bits.TheConstants.{MAX_WATCHES}
use Rattle.lgx_watch.specs.Watches.{spans}

-- the row of a word; one past the last has no bit
abbrev pub row : List (List ℕ) → ℕ → List ℕ
row rows word = slice_index_or rows word []

-- the row of each word has the bits of the watched places that have a byte in it, and no other
pub record IsIndex (places : List Place) (rows : List (List ℕ)) : Type 0 where
  pub few : length places ≤ MAX_WATCHES
  pub watched : (word w : ℕ) (p : Place) → slice_get places w ≡ Some p → bit_of_words (row rows word) w ≡ spans p word
  pub others : (word w : ℕ) → length places ≤ w → bit_of_words (row rows word) w ≡ false

-- a number of a watched place is that of the one member of a row, unless it is none
abbrev pub IsLone : List ℕ → ℕ → Type 0
IsLone words number = number < MAX_WATCHES → (w : ℕ) → w < MAX_WATCHES → bit_of_words words w ≡ true → w ≡ number

-- such numbers of the rows of words
abbrev pub AreLone : List (List ℕ) → List ℕ → Type 0
AreLone rows lones = (word : ℕ) → IsLone (row rows word) (slice_index_or lones word MAX_WATCHES)

-- the rows of the words from first on, up to next, have the bit of a number, and all else is as before
pub record NumberAdded (number first next : ℕ) (old new : List (List ℕ)) : Type 0 where
  pub added : (g : ℕ) → first ≤ g → g < next → bit_of_words (row new g) number ≡ true
  pub others : (g w : ℕ) → (w ≢ number) ⊎ ((g < first) ⊎ (next ≤ g)) → bit_of_words (row new g) w ≡ bit_of_words (row old g) w
  pub len : length new ≡ length old
