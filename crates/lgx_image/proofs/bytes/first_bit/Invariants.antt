use Rattle.lgx_image.proofs.Paths.{Continues}
use Rattle.lgx_image.proofs.bytes.first_bit.Given as goal

abbrev pub invariant-loop-index : goal.invariant-loop-index
invariant-loop-index l = Continues l.bytes l.path.steps l.path.at l.at l.index-index
