-- A rung is larger than the forks in it.
use Rattle.std.specs.Prelude.{◌≤◌, List, [], ◌∷◌}
use Rattle.std.proofs.Common.{arith}
use denote.Param.Weighed.{most}
use Rattle.lgx_rung.specs.declared.rung.Element.{Element}
use Rattle.lgx_rung.specs.declared.rung.Element.TheVariants.{Ins, Fork}
use Rattle.lgx_rung.specs.declared.rung.Legs.TheDeep.{deep-Element}
use Rattle.lgx_rung.specs.Elements.{tree_of}
use Rattle.lgx_rung.specs.Sizes.{tree_size}

pub elements_fall : (es : List Element) → most deep-Element es ≤ tree_size (tree_of es)
elements_fall [] = omega arith
elements_fall (Ins op texts ∷ es) = omega (arith, elements_fall es)
elements_fall (Fork [] ∷ es) = omega (arith, elements_fall es)
elements_fall (Fork (t ∷ ts) ∷ es) = omega (arith, elements_fall es)
