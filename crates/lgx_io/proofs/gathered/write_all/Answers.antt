use Rattle.lgx_io.proofs.Known.{IsWritten-more, IsWritten-kept, AppendsPart-of_written}
use Rattle.lgx_io.proofs.gathered.write_all.Goals as goal
use Rattle.lgx_io.proofs.gathered.write_all.Goals.{in-Ok, in-Err+else-ne}

pub returns-in-Ok-eq0-clause-part : goal.returns-in-Ok-eq0-clause-part
returns-in-Ok-eq0-clause-part g c =
    AppendsPart-of_written _ _ _ _ (IsWritten-more _ _ _ _ _ _ c.loop.invariant c.in-Ok-eq0.ensures.bytes)

pub returns-then-ne-clause-part : goal.returns-then-ne-clause-part
returns-then-ne-clause-part g c =
    AppendsPart-of_written _ _ _ _ (IsWritten-kept _ _ _ _ _ c.loop.invariant c.in-Err.ensures.bytes)

pub loop-preserved : goal.loop-preserved
loop-preserved g c =
    elim c.match-write.branch [
      | in-Ok w ↦ rw w.rest-is (IsWritten-more _ _ _ _ _ _ c.loop.invariant w.in-Ok.ensures.bytes)
      | in-Err+else-ne w ↦ rw w.rest-is (IsWritten-kept _ _ _ _ _ c.loop.invariant w.in-Err.ensures.bytes)
    ]

pub returns-clause-part : goal.returns-clause-part
returns-clause-part g c = AppendsPart-of_written _ _ _ _ c.loop.invariant
