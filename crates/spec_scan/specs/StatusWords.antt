-- A timer or a counter in the image: a status word of single bits, then its preset and its accumulator. A timer's last
-- word is the tick at which it last counted (profile).
use Rattle.std.specs.Prelude.{ℕ, ◌+◌, ◌*◌, Bool, true, false, List, ℤ, pos, int_le}
use Rattle.std.specs.Int.{w32}
use Rattle.lgx_num.specs.declared.number.Kind.TheVariants.{Bool as KBool}
use Rattle.lgx_num.specs.Image.{signed_at, write_signed, number_of, write_of}
use Rattle.spec_scan.specs.Arguments.{is_one, bit_number}

-- ---- bits of the status word, by number

-- a timer: enabled, timing, done
abbrev pub en_bit : ℕ
en_bit = 31

abbrev pub tt_bit : ℕ
tt_bit = 30

abbrev pub dn_bit : ℕ
dn_bit = 29

-- a counter: counting up, counting down, done (as a timer's), overflow, underflow
abbrev pub cu_bit : ℕ
cu_bit = 31

abbrev pub cd_bit : ℕ
cd_bit = 30

abbrev pub ov_bit : ℕ
ov_bit = 28

abbrev pub un_bit : ℕ
un_bit = 27

-- bit k of the status word at this byte
abbrev pub status : List ℕ → ℕ → ℕ → Bool
status image at k = is_one (number_of KBool image (8 * at + k))

abbrev pub put_status : ℕ → ℕ → Bool → List ℕ → List ℕ
put_status at k b image = write_of KBool image (8 * at + k) (bit_number b)

-- ---- the numbers

-- the signed number of the four bytes from this one on
abbrev pub dint : List ℕ → ℕ → ℤ
dint image at = signed_at w32 image at

abbrev pub put_dint : ℕ → ℤ → List ℕ → List ℕ
put_dint at v image = write_signed w32 image at v

abbrev pub pre : List ℕ → ℕ → ℤ
pre image at = dint image (at + 4)

abbrev pub acc : List ℕ → ℕ → ℤ
acc image at = dint image (at + 8)

abbrev pub put_acc : ℕ → ℤ → List ℕ → List ℕ
put_acc at v image = put_dint (at + 8) v image

abbrev pub last_tick : List ℕ → ℕ → ℤ
last_tick image at = dint image (at + 12)

abbrev pub put_last_tick : ℕ → ℕ → List ℕ → List ℕ
put_last_tick at now image = put_dint (at + 12) (pos now) image

-- the accumulator has come up to the preset
abbrev pub is_reached : List ℕ → ℕ → Bool
is_reached image at = int_le (pre image at) (acc image at)

-- RES: the accumulator and the whole status word become 0, where the condition is true.
abbrev pub reset : ℕ → Bool → List ℕ → List ℕ
reset at true image = put_dint at (pos 0) (put_acc at (pos 0) image)
reset at false image = image
