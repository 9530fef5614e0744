-- An image to its callers: its bytes, a mark for each grain in which a byte was written, which words are watched, and which of
-- these are hit. A grain is a run of `GRAIN` bytes and a word is one of `WORD_BYTES`, both counted from 0.
use Rattle.std.specs.Prelude.{◌≡◌, ℕ, zero, suc, ◌+◌, ◌/◌, ◌<◌, ◌≤◌, ◌≢◌, Bool, true, false, List, length, slice_index, slice_index_or, slice_set, Option, Some, None}
use Rattle.lgx_image.specs.declared.grain.TheConstants.{GRAIN}
use Rattle.lgx_image.specs.declared.hits.TheConstants.{WORD_BYTES}

-- the bytes of all tags, for each grain whether it is marked, and for each word whether it is watched and whether it is hit
pub record ImageView : Type 0 where
  pub bytes : List ℕ
  pub marks : List Bool
  pub watched : List Bool
  pub hits : List Bool

-- ---- grains and words

-- the grain that holds a byte
unfoldable pub grain_of : ℕ → ℕ
grain_of byte = byte / GRAIN

-- how many grains n bytes have; the last may be shorter
unfoldable pub grains_in : ℕ → ℕ
grains_in zero = 0
grains_in (suc last) = suc (grain_of last)

-- the word that holds a byte
unfoldable pub word_of : ℕ → ℕ
word_of byte = byte / WORD_BYTES

-- ---- marks

abbrev pub is_marked : List Bool → ℕ → Bool
is_marked marks grain = slice_index_or marks grain false

-- the marks when what holds a byte of a piece, from byte at on, is marked too
abbrev pub mark_each : (ℕ → ℕ) → List Bool → ℕ → ℕ → List Bool
mark_each holder marks at zero = marks
mark_each holder marks at (suc n) = mark_each holder (slice_set marks (holder at) true) (at + 1) n

-- this of grains, and of words
abbrev pub mark_range : List Bool → ℕ → ℕ → List Bool
mark_range marks at size = mark_each grain_of marks at size

abbrev pub watch_range : List Bool → ℕ → ℕ → List Bool
watch_range watched at size = mark_each word_of watched at size

-- the least marked grain that isn't below from, or none
abbrev pub NextMarked : List Bool → ℕ → Option ℕ → Type 0
NextMarked marks from None = (grain : ℕ) → from ≤ grain → is_marked marks grain ≡ false
NextMarked marks from (Some next) = (from ≤ next) × (is_marked marks next ≡ true) × ((grain : ℕ) → from ≤ grain → grain < next → is_marked marks grain ≡ false)

-- ---- hits

-- after a change of bytes a word is hit exactly if it was before, or if it is watched and a byte of it changed
pub record HitsAfter (watched old new : List Bool) (before after : List ℕ) : Type 0 where
  pub stays : (word : ℕ) → is_marked old word ≡ true → is_marked new word ≡ true
  pub changed : (byte : ℕ) → is_marked watched (word_of byte) ≡ true → slice_index after byte ≢ slice_index before byte → is_marked new (word_of byte) ≡ true
  pub only : (word : ℕ) → is_marked old word ≡ false → is_marked new word ≡ true → (is_marked watched word ≡ true) × (byte : ℕ) × (word_of byte ≡ word) × (slice_index after byte ≢ slice_index before byte)

abbrev pub HitsWritten : ImageView → ImageView → Type 0
HitsWritten old new = HitsAfter old.watched old.hits new.hits old.bytes new.bytes

abbrev pub NoneIsHit : ImageView → Type 0
NoneIsHit image = (word : ℕ) → is_marked image.hits word ≡ false

abbrev pub SomeIsHit : ImageView → Type 0
SomeIsHit image = (word : ℕ) × (is_marked image.hits word ≡ true)

-- the least word that is hit and isn't below from, or none
abbrev pub NextHit : ImageView → ℕ → Option ℕ → Type 0
NextHit image from found = NextMarked image.hits from found

-- ---- changes

-- what every change of an image keeps: no mark and no hit is taken off, only bytes of grains that are marked afterwards may differ,
-- and of watched words only those of words that are hit, and the same words are watched
pub record ChangesOnlyMarked (old new : ImageView) : Type 0 where
  pub stays_marked : (grain : ℕ) → is_marked old.marks grain ≡ true → is_marked new.marks grain ≡ true
  pub same_bytes : (byte : ℕ) → is_marked new.marks (grain_of byte) ≡ false → slice_index new.bytes byte ≡ slice_index old.bytes byte
  pub stays_hit : (word : ℕ) → is_marked old.hits word ≡ true → is_marked new.hits word ≡ true
  pub same_words : (byte : ℕ) → is_marked old.watched (word_of byte) ≡ true → is_marked new.hits (word_of byte) ≡ false → slice_index new.bytes byte ≡ slice_index old.bytes byte
  pub same_length : length new.bytes ≡ length old.bytes
  pub same_watched : new.watched ≡ old.watched

-- two images have the same bytes in all watched words
pub record SameInWatched (watched : List Bool) (old new : List ℕ) : Type 0 where
  pub same_length : length new ≡ length old
  pub same_bytes : (byte : ℕ) → is_marked watched (word_of byte) ≡ true → slice_index new byte ≡ slice_index old byte
