use Rattle.std.proofs.Common.{◌≡◌, length}
use Rattle.std.specs.List.{AllByRecursion as Each}
use Rattle.lgx_num.specs.Image.{InBounds}
use Rattle.spec_scan.specs.Arguments.{place_of}
use Rattle.lgx_engine.proofs.Told.{Told}
use Rattle.lgx_engine.proofs.handing.places_of.Given as goal

abbrev pub invariant-loop-operand : goal.invariant-loop-operand
invariant-loop-operand l = (length l.places.items ≡ l.operand-index) × Told place_of l.image.bytes l.operands l.places.items l.operand-index × Each (λ p. InBounds p (length l.image.bytes)) l.places.items
