-- Laws of the definitions of numbers and of the image: what shows that they say what is meant.
use Rattle.std.specs.Prelude.{◌≡◌, ℕ, ◌<◌, List, length, ℤ, IsTrue, FitsSigned, slice_index, EachIndex, Some, map, ◌↔◌}
use Rattle.std.specs.Char.{to_ascii_lowercase}
use Rattle.std.specs.Int.{w32}
use Rattle.lgx_num.specs.declared.number.Kind.{Kind}
use Rattle.lgx_num.specs.declared.place.Place.{Place}
use Rattle.lgx_num.specs.declared.place.Path.{Path}
use Rattle.lgx_num.specs.Name.{same}
use Rattle.lgx_num.specs.Number.{store_low, fits, low_bits, bytes_of, dint_of}
use Rattle.lgx_num.specs.Image.{number, write, bits_of, InBounds, AreDisjoint, bit_of}
use Rattle.lgx_num.specs.Paths.{CanReach}

-- ---- numbers

-- what is kept of a value is the number in the kind's range that has the value's low bits
abbrev pub KeptIsInRange : Type 0
KeptIsInRange = (k : Kind) (v : ℤ) → IsTrue (fits k (store_low k v))

abbrev pub KeptHasTheLowBits : Type 0
KeptHasTheLowBits = (k : Kind) (v : ℤ) → low_bits (bits_of k) (store_low k v) ≡ low_bits (bits_of k) v

-- a value in range is kept as it is
abbrev pub ValueInRangeIsKept : Type 0
ValueInRangeIsKept = (k : Kind) (v : ℤ) → IsTrue (fits k v) → store_low k v ≡ v

-- bytes and numbers of 32 bits are one to one
abbrev pub NumberOfItsBytes : Type 0
NumberOfItsBytes = (v : ℤ) → FitsSigned w32 v → dint_of (bytes_of v) ≡ v

abbrev pub BytesOfTheirNumber : Type 0
BytesOfTheirNumber = (bytes : List ℕ) → length bytes ≡ 4 → EachIndex bytes (λ i. slice_index bytes i < 256) → bytes_of (dint_of bytes) ≡ bytes

-- ---- the image

-- what is read where a value was written is what is kept of it
abbrev pub ReadsWhatWasWritten : Type 0
ReadsWhatWasWritten = (image : List ℕ) (p : Place) (v : ℤ) → InBounds p (length image) → number (write image p v) p ≡ store_low p.kind v

-- a place that shares no bit with the one that is written stays as it was
abbrev pub OtherPlacesStay : Type 0
OtherPlacesStay = (image : List ℕ) (p q : Place) (v : ℤ) → InBounds p (length image) → InBounds q (length image) → AreDisjoint p q → number (write image p v) q ≡ number image q

-- a write keeps the image's length
abbrev pub WriteKeepsLength : Type 0
WriteKeepsLength = (image : List ℕ) (p : Place) (v : ℤ) → length (write image p v) ≡ length image

-- ---- subscripts

-- where a path's subscripts are worked out, they lead by numbers in range
abbrev pub SubscriptsStayInRange : Type 0
SubscriptsStayInRange = (image : List ℕ) (p : Path) (to : ℕ) → bit_of image p ≡ Some to → CanReach p.steps p.at to

-- ---- names

-- names are compared by their spelling in lower case
abbrev pub SameInLowerCase : Type 0
SameInLowerCase = (a b : List ℕ) → IsTrue (same a b) ↔ (map to_ascii_lowercase a ≡ map to_ascii_lowercase b)
