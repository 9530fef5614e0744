-- The laws of numbers.
use Rattle.std.proofs.Common.{◌≡◌, ℕ, ◌^◌, ◌<◌, ◌%◌, lit<, inl, inr, List, length, IsTrue, ℤ, pos, negsuc, get_or, unsigned_abs, refl, ◌∙◌, ap, arith, EachIndex, slice_index}
use Rattle.std.specs.Int.{w8, w16, w32, cast_signed, int_rem_euclid, to_le_bytes, from_le_bytes}
use Rattle.std.specs.Prelude.{FitsSigned}
use Rattle.std.proofs.lemmas.Int.{ints}
use Rattle.std.proofs.lemmas.Nat.{from_le_bytes-to_le_bytes_2, from_le_bytes-to_le_bytes_4, le_bytes_4, mod_below}
use Rattle.std.proofs.lemmas.Bool.{cases_lt}
use Rattle.std.proofs.lemmas.Grind.{common_steps}
use Rattle.lgx_num.specs.declared.number.Kind.TheVariants.{Bool as KBool, Sint, Int, Dint}
use Rattle.lgx_num.specs.Number.{low_bits, low, store_low, fits, signed_bytes, signed_of}
use Rattle.lgx_num.specs.Laws.{KeptIsInRange, KeptHasTheLowBits, ValueInRangeIsKept, NumberOfItsBytes, BytesOfTheirNumber}

-- low bits are below their power of 2
pub low_bits_below : (n : ℕ) (v : ℤ) → 0 < n → unsigned_abs (int_rem_euclid v (pos n)) < n
low_bits_below n (pos a) some = mod_below a n some
low_bits_below n (negsuc a) some = omega arith

-- a number of 8, 16 or 32 bits that is read as signed: its low bits, and its range
low_bits_8 : (n : ℕ) → n < 2 ^ 8 → low_bits 8 (cast_signed w8 n) ≡ n
low_bits_8 n below = grind (arith, ints)

low_bits_16 : (n : ℕ) → n < 2 ^ 16 → low_bits 16 (cast_signed w16 n) ≡ n
low_bits_16 n below = grind (arith, ints)

low_bits_32 : (n : ℕ) → n < 2 ^ 32 → low_bits 32 (cast_signed w32 n) ≡ n
low_bits_32 n below = grind (arith, ints)

range_8 : (n : ℕ) → n < 2 ^ 8 → IsTrue (fits Sint (cast_signed w8 n))
range_8 n below = grind (arith, ints)

range_16 : (n : ℕ) → n < 2 ^ 16 → IsTrue (fits Int (cast_signed w16 n))
range_16 n below = grind (arith, ints)

range_32 : (n : ℕ) → n < 2 ^ 32 → IsTrue (fits Dint (cast_signed w32 n))
range_32 n below = grind (arith, ints)

range_1 : (n : ℕ) → n < 2 → IsTrue (fits KBool (pos n))
range_1 n below = grind (arith, ints)

-- a number that isn't below a power of 2 has no low bits left out
low_bits_1 : (n : ℕ) → n < 2 → low_bits 1 (pos n) ≡ n
low_bits_1 n below = grind arith

kept_1 : (v : ℤ) → IsTrue (fits KBool v) → store_low KBool v ≡ v
kept_1 (pos a) within = grind (arith, ints)
kept_1 (negsuc a) within = grind (arith, ints)

kept_8 : (v : ℤ) → IsTrue (fits Sint v) → low w8 v ≡ v
kept_8 (pos a) within = grind (arith, ints)
kept_8 (negsuc a) within = grind (arith, ints)

kept_16 : (v : ℤ) → IsTrue (fits Int v) → low w16 v ≡ v
kept_16 (pos a) within = grind (arith, ints)
kept_16 (negsuc a) within = grind (arith, ints)

kept_32 : (v : ℤ) → IsTrue (fits Dint v) → low w32 v ≡ v
kept_32 (pos a) within = grind (arith, ints)
kept_32 (negsuc a) within = grind (arith, ints)

-- a signed number of 32 bits is in a DINT's range
in_dint : (v : ℤ) → FitsSigned w32 v → IsTrue (fits Dint v)
in_dint (pos a) within = let h = within.sfits in grind (arith, ints)
in_dint (negsuc a) within = let h = within.sfits in grind (arith, ints)

pub kept_is_in_range : KeptIsInRange
kept_is_in_range KBool v = range_1 _ (low_bits_below 2 v (lit< tt))
kept_is_in_range Sint v = range_8 _ (low_bits_below (2 ^ 8) v (lit< tt))
kept_is_in_range Int v = range_16 _ (low_bits_below (2 ^ 16) v (lit< tt))
kept_is_in_range Dint v = range_32 _ (low_bits_below (2 ^ 32) v (lit< tt))

pub kept_has_the_low_bits : KeptHasTheLowBits
kept_has_the_low_bits KBool v = low_bits_1 _ (low_bits_below 2 v (lit< tt))
kept_has_the_low_bits Sint v = low_bits_8 _ (low_bits_below (2 ^ 8) v (lit< tt))
kept_has_the_low_bits Int v = low_bits_16 _ (low_bits_below (2 ^ 16) v (lit< tt))
kept_has_the_low_bits Dint v = low_bits_32 _ (low_bits_below (2 ^ 32) v (lit< tt))

pub value_in_range_is_kept : ValueInRangeIsKept
value_in_range_is_kept KBool v within = kept_1 v within
value_in_range_is_kept Sint v within = kept_8 v within
value_in_range_is_kept Int v within = kept_16 v within
value_in_range_is_kept Dint v within = kept_32 v within

-- ---- bytes

-- the number of a number's bytes is what is kept of it
pub signed_of-bytes_8 : (v : ℤ) → signed_of w8 (signed_bytes w8 v) ≡ low w8 v
signed_of-bytes_8 v = let b = low_bits_below (2 ^ 8) v (lit< tt) in ap (cast_signed w8) (mod_small (low_bits 8 v) b)
  where
    mod_small : (n : ℕ) → n < 2 ^ 8 → n % 256 ≡ n
    mod_small n below = omega arith

pub signed_of-bytes_16 : (v : ℤ) → signed_of w16 (signed_bytes w16 v) ≡ low w16 v
signed_of-bytes_16 v = ap (cast_signed w16) (from_le_bytes-to_le_bytes_2 (low_bits 16 v) (low_bits_below (2 ^ 16) v (lit< tt)))

pub signed_of-bytes_32 : (v : ℤ) → signed_of w32 (signed_bytes w32 v) ≡ low w32 v
signed_of-bytes_32 v = ap (cast_signed w32) (from_le_bytes-to_le_bytes_4 (low_bits 32 v) (low_bits_below (2 ^ 32) v (lit< tt)))

pub number_of_its_bytes : NumberOfItsBytes
number_of_its_bytes v within = signed_of-bytes_32 v ∙ kept_32 v (in_dint v within)

-- bytes are below 256, also where there is none
each_small : (bytes : List ℕ) → EachIndex bytes (λ i. slice_index bytes i < 256) → (i : ℕ) → get_or bytes i 0 < 256
each_small bytes small i = elim (cases_lt i (length bytes)) [ inl within ↦ small i within | inr past ↦ grind (arith, common_steps) ]

pub bytes_of_their_number : BytesOfTheirNumber
bytes_of_their_number bytes four small =
    let s = each_small bytes small in
    let n = from_le_bytes w32 bytes in
    let below : n < 2 ^ 32 = omega (arith, s 0, s 1, s 2, s 3) in
    ap (to_le_bytes w32) (low_bits_32 n below) ∙ le_bytes_4 bytes n four s refl
