-- Numbers of the kinds of value that a tag holds, and their bytes. A value is a whole number of any size; a bit is the
-- number 0 or 1, and a SINT, INT or DINT a signed number of 8, 16 or 32 bits in two's complement.
use Rattle.std.specs.Prelude.{ℕ, ◌*◌, ◌^◌, Bool, ◌&&◌, List, ℤ, pos, negsuc, int_le, unsigned_abs}
use Rattle.std.specs.Int.{Width, w8, w16, w32, cast_signed, int_rem_euclid, byte_len, to_le_bytes, from_le_bytes}
-- whether two numbers are equal, passed on
pub use Rattle.std.specs.Ordering.{int_eq}
use Rattle.lgx_num.specs.declared.number.Kind.{Kind}
use Rattle.lgx_num.specs.declared.number.Kind.TheVariants.{Bool as KBool, Sint, Int, Dint}

-- the lowest bits of a number, as a number that isn't negative
abbrev pub low_bits : ℕ → ℤ → ℕ
low_bits bits v = unsigned_abs (int_rem_euclid v (pos (2 ^ bits)))

-- the signed number of a value's low bits, at a signed type
abbrev pub low : Width → ℤ → ℤ
low w v = cast_signed w (low_bits (8 * byte_len w) v)

-- the same at a kind: what is kept of a value that is stored there
abbrev pub store_low : Kind → ℤ → ℤ
store_low KBool v = pos (low_bits 1 v)
store_low Sint v = low w8 v
store_low Int v = low w16 v
store_low Dint v = low w32 v

-- the least and the greatest number of a kind
abbrev pub least : Kind → ℤ
least KBool = pos 0
least Sint = negsuc 127
least Int = negsuc 32767
least Dint = negsuc 2147483647

abbrev pub greatest : Kind → ℤ
greatest KBool = pos 1
greatest Sint = pos 127
greatest Int = pos 32767
greatest Dint = pos 2147483647

-- how many bytes hold the bits of a kind
abbrev pub bytes_in : Kind → ℕ
bytes_in KBool = 1
bytes_in Sint = 1
bytes_in Int = 2
bytes_in Dint = 4

-- a value is in a kind's range
abbrev pub fits : Kind → ℤ → Bool
fits k v = int_le (least k) v && int_le v (greatest k)

-- the bytes of a number at a signed type, the lowest first, and the number that bytes are
abbrev pub signed_bytes : Width → ℤ → List ℕ
signed_bytes w v = to_le_bytes w (low_bits (8 * byte_len w) v)

abbrev pub signed_of : Width → List ℕ → ℤ
signed_of w bytes = cast_signed w (from_le_bytes w bytes)

-- the same for a DINT
abbrev pub bytes_of : ℤ → List ℕ
bytes_of v = signed_bytes w32 v

abbrev pub dint_of : List ℕ → ℤ
dint_of bytes = signed_of w32 bytes
