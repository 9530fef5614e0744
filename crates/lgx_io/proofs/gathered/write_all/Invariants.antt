-- What is gone from `rest` was written.
use Rattle.lgx_io.proofs.Known.{IsWritten}
use Rattle.lgx_io.proofs.gathered.write_all.Given as goal

abbrev pub invariant-loop : goal.invariant-loop
invariant-loop g l = IsWritten (g.W.Write.contents l.initial.writer) (g.W.Write.contents l.writer) l.initial.rest l.rest
