-- Laws of arithmetic: what shows that its definitions say what is meant.
use Rattle.std.specs.Prelude.{◌≡◌, ◌≢◌, ℕ, ◌<◌, false, ℤ, pos, ◌+ℤ◌, ◌*ℤ◌, ◌≤ℤ◌, unsigned_abs, IsTrue, FitsSigned}
use Rattle.std.specs.Int.{w32, bit_at, cast_unsigned}
use Rattle.lgx_num.specs.declared.number.Kind.{Kind}
use Rattle.lgx_num.specs.Number.{store_low}
use Rattle.lgx_rung.specs.declared.op.Op.{Op}
use Rattle.spec_scan.specs.Arithmetic.{quotient, remainder, masked_move, is_exact, overflows}

-- ---- quotients

-- the remainder is what the quotient, times the divisor, leaves of the dividend
abbrev pub RemainderIsLeft : Type 0
RemainderIsLeft = (a b : ℤ) → b ≢ pos 0 → quotient a b *ℤ b +ℤ remainder a b ≡ a

-- it is nearer to 0 than the divisor
abbrev pub RemainderIsLess : Type 0
RemainderIsLess = (a b : ℤ) → b ≢ pos 0 → unsigned_abs (remainder a b) < unsigned_abs b

-- it is 0 or has the sign of the dividend; so the quotient is cut towards zero
abbrev pub RemainderHasTheSign : Type 0
RemainderHasTheSign = (a b : ℤ) → (pos 0 ≤ℤ a → pos 0 ≤ℤ remainder a b) × (a ≤ℤ pos 0 → remainder a b ≤ℤ pos 0)

-- ---- overflow

-- an exact result without an overflow is stored as it is
abbrev pub StoredIsExact : Type 0
StoredIsExact = (op : Op) (kind : Kind) (b exact : ℤ) → IsTrue (is_exact op) → overflows op kind b exact ≡ false → store_low kind exact ≡ exact

-- ---- moves under a mask

-- bit i of a number of 32 bits
abbrev pub bit_of : ℤ → ℕ → ℕ
bit_of v i = bit_at (cast_unsigned w32 v) i

-- if the mask has a 1, the bit there is that of the source, and else that of the destination
abbrev pub MaskedBitsAreMoved : Type 0
MaskedBitsAreMoved = (source mask dest : ℤ) (i : ℕ) → FitsSigned w32 source → FitsSigned w32 mask → FitsSigned w32 dest → i < 32 → bit_of mask i ≡ 1 → bit_of (masked_move source mask dest) i ≡ bit_of source i

abbrev pub OtherBitsStay : Type 0
OtherBitsStay = (source mask dest : ℤ) (i : ℕ) → FitsSigned w32 source → FitsSigned w32 mask → FitsSigned w32 dest → i < 32 → bit_of mask i ≡ 0 → bit_of (masked_move source mask dest) i ≡ bit_of dest i
