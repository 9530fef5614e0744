-- What is at a place of the image, what a write makes of the image, and where subscripts lead. An image is a list of bytes; bit i
-- of byte k has the number 8k + i, and a SINT, INT or DINT lies in 1, 2 or 4 bytes, the lowest first.
use Rattle.std.specs.Prelude.{◌≡◌, ℕ, zero, suc, ◌+◌, ◌*◌, ◌/◌, ◌%◌, ◌^◌, ◌≤◌, List, [], ◌∷◌, ◌⊎◌, ℤ, pos, negsuc, nat_lt, ◌==◌, if◌then◌else◌, slice_index, slice_set, bit_and, bit_or, Option, Some, None}
use Rattle.std.specs.Int.{Width, w8, w16, w32, bit_at, bit_not, byte_len}
use Rattle.lgx_num.specs.declared.number.Kind.{Kind}
use Rattle.lgx_num.specs.declared.number.Kind.TheVariants.{Bool as KBool, Sint, Int, Dint}
use Rattle.lgx_num.specs.declared.place.Place.{Place}
use Rattle.lgx_num.specs.declared.place.Index.{Index}
use Rattle.lgx_num.specs.declared.place.Path.{Path}
use Rattle.lgx_num.specs.Number.{low_bits, signed_bytes, signed_of}

-- ---- pieces of an image

-- this many bytes from byte at on
abbrev pub piece : List ℕ → ℕ → ℕ → List ℕ
piece image at zero = []
piece image at (suc n) = slice_index image at ∷ piece image (at + 1) n

-- the image with these bytes from byte at on
abbrev pub splice : List ℕ → ℕ → List ℕ → List ℕ
splice image at [] = image
splice image at (b ∷ bs) = splice (slice_set image at b) (at + 1) bs

-- the byte with its bit i set if b is 1, and else cleared
abbrev pub with_bit : ℕ → ℕ → ℕ → ℕ
with_bit byte i b = if b == 1 then bit_or byte (2 ^ i) else bit_and byte (bit_not w8 (2 ^ i))

-- ---- numbers in an image

-- the signed number from byte at on, and the image with the low bits of v there
abbrev pub signed_at : Width → List ℕ → ℕ → ℤ
signed_at w image at = signed_of w (piece image at (byte_len w))

abbrev pub write_signed : Width → List ℕ → ℕ → ℤ → List ℕ
write_signed w image at v = splice image at (signed_bytes w v)

-- the same at a kind, from bit at on
abbrev pub number_of : Kind → List ℕ → ℕ → ℤ
number_of KBool image at = pos (bit_at (slice_index image (at / 8)) (at % 8))
number_of Sint image at = signed_at w8 image (at / 8)
number_of Int image at = signed_at w16 image (at / 8)
number_of Dint image at = signed_at w32 image (at / 8)

abbrev pub write_of : Kind → List ℕ → ℕ → ℤ → List ℕ
write_of KBool image at v = slice_set image (at / 8) (with_bit (slice_index image (at / 8)) (at % 8) (low_bits 1 v))
write_of Sint image at v = write_signed w8 image (at / 8) v
write_of Int image at v = write_signed w16 image (at / 8) v
write_of Dint image at v = write_signed w32 image (at / 8) v

-- the number at a place, and the image in which the low bits of v are there and all else is as before
abbrev pub number : List ℕ → Place → ℤ
number image p = number_of p.kind image p.at

abbrev pub write : List ℕ → Place → ℤ → List ℕ
write image p v = write_of p.kind image p.at v

-- ---- where a place lies

-- how many bits a kind takes
abbrev pub bits_of : Kind → ℕ
bits_of KBool = 1
bits_of Sint = 8
bits_of Int = 16
bits_of Dint = 32

-- all but a bit begin on a byte
abbrev pub IsByteAligned : Kind → ℕ → Type 0
IsByteAligned KBool at = Unit {0}
IsByteAligned Sint at = at % 8 ≡ 0
IsByteAligned Int at = at % 8 ≡ 0
IsByteAligned Dint at = at % 8 ≡ 0

-- a place lies in an image of this many bytes
abbrev pub InBoundsAt : Kind → ℕ → ℕ → Type 0
InBoundsAt kind at len = IsByteAligned kind at × (at + bits_of kind ≤ 8 * len)

abbrev pub InBounds : Place → ℕ → Type 0
InBounds p len = InBoundsAt p.kind p.at len

-- two places have no bit in common
abbrev pub AreDisjoint : Place → Place → Type 0
AreDisjoint p q = (p.at + bits_of p.kind ≤ q.at) ⊎ (q.at + bits_of q.kind ≤ p.at)

-- ---- where subscripts lead

-- how many bits a subscript leads on, or none if it is negative or not below the number of elements
abbrev pub step_by : Index → ℤ → Option ℕ
step_by i (pos n) = if nat_lt n i.length then Some (n * i.stride) else None
step_by i (negsuc n) = None

abbrev pub moved : Option ℕ → Option ℕ → Option ℕ
moved (Some a) (Some b) = Some (a + b)
moved None (Some b) = None
moved (Some a) None = None
moved None None = None

-- the bit to which subscripts lead from bit at, each read in the image, or none if one is out of range
abbrev pub path_offset : List ℕ → List Index → ℕ → Option ℕ
path_offset image [] at = Some at
path_offset image (i ∷ is) at = moved (step_by i (number image i.of)) (path_offset image is at)

-- the first bit of what a path names
abbrev pub bit_of : List ℕ → Path → Option ℕ
bit_of image p = path_offset image p.steps p.at
