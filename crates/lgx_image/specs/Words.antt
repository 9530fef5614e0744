-- How an image keeps its marks, and which words are watched and hit: of these bit i of row k is that of number 64k + i.
use Rattle.std.specs.Prelude.{◌≡◌, ◌≢◌, ℕ, ◌/◌, ◌%◌, ◌^◌, ◌-◌, ◌<◌, ◌≤◌, min, Bool, true, false, ◌||◌, List, length, map, slice_index, ◌==◌, Option, Some, None, option_map}
use Rattle.std.specs.Int.{bit_at}
use Rattle.std.specs.List.{range_with_len}
use Rattle.lgx_image.specs.declared.hits.TheConstants.{MAX_WORDS}
use Rattle.lgx_image.specs.Grains.{is_marked}

abbrev pub bit_of_words : List ℕ → ℕ → Bool
bit_of_words words grain = bit_at (slice_index words (grain / 64)) (grain % 64) == 1

-- which words of an image are watched and which are hit
pub record HitsView : Type 0 where
  pub watched : List Bool
  pub hits : List Bool

-- the least bit that is set is number first, and none from end on is set; end is 0 if none is set at all
pub record AreBetween (words : List ℕ) (first end : ℕ) : Type 0 where
  pub within : (g : ℕ) → bit_of_words words g ≡ true → (first ≤ g) × (g < end)
  pub some : 0 < end → bit_of_words words first ≡ true
  pub few : end ≤ MAX_WORDS

-- a word changed: it is hit if it was before or is watched, and the others stay
pub record IsNoted (watched old new : List Bool) (word : ℕ) : Type 0 where
  pub its : is_marked new word ≡ (is_marked old word || is_marked watched word)
  pub others : (other : ℕ) → other ≢ word → is_marked new other ≡ is_marked old other

-- the words below from have no bit any more, and the others have those that they had
pub record Cleared (old now : List ℕ) (from : ℕ) : Type 0 where
  pub len : length now ≡ length old
  pub none : (g : ℕ) → g / 64 < from → bit_of_words now g ≡ false
  pub rest : (g : ℕ) → from ≤ g / 64 → bit_of_words now g ≡ bit_of_words old g

-- the marks of `grains` grains
unfoldable pub marks_of : List ℕ → ℕ → List Bool
marks_of words grains = map (bit_of_words words) (range_with_len 0 grains)

-- the first n of a list of truth values; what it hasn't is false
unfoldable pub flags_of : List Bool → ℕ → List Bool
flags_of flags n = map (is_marked flags) (range_with_len 0 n)

-- the least bit that is set and not below from, or none
abbrev pub NextBit : List ℕ → ℕ → Option ℕ → Type 0
NextBit words from None = (k : ℕ) → from ≤ k → bit_of_words words k ≡ false
NextBit words from (Some next) = (from ≤ next) × (bit_of_words words next ≡ true) × ((k : ℕ) → from ≤ k → k < next → bit_of_words words k ≡ false)

-- the least bit of a word, or none
abbrev pub LeastBit : ℕ → Option ℕ → Type 0
LeastBit word None = (i : ℕ) → bit_at word i ≡ 0
LeastBit word (Some least) = (least < 64) × (bit_at word least ≡ 1) × ((i : ℕ) → i < least → bit_at word i ≡ 0)

-- a number of bits, cut to 32 bits
abbrev pub cut : ℕ → ℕ
cut n = min n (2 ^ 32 - 1)

abbrev pub cut_step : Option ℕ → Option ℕ
cut_step o = option_map cut o
