use Rattle.lgx_live.specs.Piped.{CameSoFar}
use Rattle.lgx_live.proofs.reading.read_line.Given as goal

abbrev pub invariant-loop : goal.invariant-loop
invariant-loop g l = CameSoFar (g.R.Read.remaining l.fn.reader) (g.R.Read.remaining l.reader) l.line.items
