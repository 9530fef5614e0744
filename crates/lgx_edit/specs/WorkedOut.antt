-- What is worked out of a rung once.
use Rattle.std.specs.Prelude.{◌≡◌}
use Rattle.lgx_prog.specs.Joining.{IsCodeOf}
use Rattle.lgx_check.specs.Known.{is_plain}
use Rattle.lgx_edit.specs.declared.shared.RungParts.{RungParts}
use Rattle.lgx_edit.specs.Counting.{rung_count}

-- its flat code by itself, how many instructions it has, and whether it is plain
pub record AreWorkedOut (p : RungParts) : Type 0 where
  pub code : IsCodeOf p.code p.checked
  pub count : p.count ≡ rung_count p.source
  pub plain : p.plain ≡ is_plain p.source
