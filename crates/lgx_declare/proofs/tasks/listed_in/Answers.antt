use Rattle.std.proofs.Common.{arith}
use Rattle.lgx_declare.proofs.Listings.{listed_more}
use Rattle.lgx_declare.proofs.tasks.listed_in.Goals as goal

pub loop-i-preserved : goal.loop-i-preserved
loop-i-preserved c =
    rw (listed_more c.args.programs.now c.args.tasks.now c.loop-i.i c.index-tasks-i.result (omega arith) c.index-tasks-i.is, ← c.loop-i.invariant, ← c.as_slice.ensures) c.in_ok-list_programs.ensures
