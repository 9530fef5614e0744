-- The legs and the elements that were passed were copied.
use Rattle.std.proofs.Common.{◌≡◌, take}
use Rattle.lgx_rung.proofs.rung.+copies.Given as goal

abbrev pub invariant-Legs::copied-loop-leg : goal.invariant-Legs::copied-loop-leg
invariant-Legs::copied-loop-leg l = l.legs.items ≡ take l.leg-index l.leg-items

abbrev pub invariant-SourceRung::copied-loop-element : goal.invariant-SourceRung::copied-loop-element
invariant-SourceRung::copied-loop-element l = l.elements.items ≡ take l.element-index l.element-items
