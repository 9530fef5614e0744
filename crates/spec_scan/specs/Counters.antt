-- The counter instructions (1756-RM003).
use Rattle.std.specs.Prelude.{ℕ, Bool, true, false, List, pos, negsuc, ◌+ℤ◌, if◌then◌else◌}
use Rattle.lgx_num.specs.Number.{int_eq, least, greatest}
use Rattle.lgx_num.specs.declared.number.Kind.TheVariants.{Dint}
use Rattle.lgx_rung.specs.declared.op.Op.{Op}
use Rattle.lgx_rung.specs.declared.op.Op.TheVariants.{Ctu, Ctd}
use Rattle.spec_scan.specs.StatusWords.{cu_bit, cd_bit, dn_bit, ov_bit, un_bit, status, put_status, acc, put_acc, is_reached}

-- One more; behind the greatest value comes the least, and the overflow bit is set.
abbrev pub one_up : ℕ → List ℕ → List ℕ
one_up at image =
    if int_eq (acc image at) (greatest Dint) then put_status at ov_bit true (put_acc at (least Dint) image) else put_acc at (acc image at +ℤ pos 1) image

-- One less; behind the least value comes the greatest, and the underflow bit is set.
abbrev pub one_down : ℕ → List ℕ → List ℕ
one_down at image =
    if int_eq (acc image at) (least Dint) then put_status at un_bit true (put_acc at (greatest Dint) image) else put_acc at (acc image at +ℤ negsuc 0) image

-- After each of them the counter is done exactly where its accumulator has come up to the preset (profile).
abbrev pub with_done : ℕ → List ℕ → List ℕ
with_done at image = put_status at dn_bit (is_reached image at) image

-- CTU counts where its condition became true, which is where CU was 0; CTD likewise by CD. The overflow and underflow
-- bits stay until RES (profile).
abbrev pub counter : Op → ℕ → Bool → List ℕ → List ℕ
counter Ctu at true image = with_done at (if status image at cu_bit then image else one_up at (put_status at cu_bit true image))
counter Ctu at false image = with_done at (put_status at cu_bit false image)
counter Ctd at true image = with_done at (if status image at cd_bit then image else one_down at (put_status at cd_bit true image))
counter Ctd at false image = with_done at (put_status at cd_bit false image)
counter _ at on image = image
