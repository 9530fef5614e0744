-- The lists of uses, one for each tag in the order of the layout.
use Rattle.std.specs.Prelude.{List}
use Rattle.spec_uses.specs.declared.uses.Use.{Use}

pub record Index : Type 0 where
  pub writers : List (List Use)
  pub readers : List (List Use)
