-- Instructions that hand numbers over have no prescan.
use Rattle.std.proofs.Common.{◌≡◌, ℕ, List, true, Option, Some, None, refl}
use Rattle.lgx_rung.specs.declared.op.Op.{Op}
use Rattle.lgx_rung.specs.declared.op.Op.TheVariants.{Jsr, Sbr, Ret}
use Rattle.spec_scan.specs.declared.bound.Arg.{Arg}
use Rattle.spec_scan.specs.Prescan.{prescan_bound}
use Rattle.lgx_prog.specs.HandsOver.{hands_over}

pub no_prescan : (op : Op) (image : List ℕ) (o : Option (List Arg)) → hands_over op ≡ true → prescan_bound op image o ≡ image
no_prescan op image None e = refl
no_prescan Jsr image (Some args) e = refl
no_prescan Sbr image (Some args) e = refl
no_prescan Ret image (Some args) e = refl
no_prescan _ image (Some args) e = absurd (cc e)
