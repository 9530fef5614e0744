use Rattle.std.proofs.Common.{arith}
use Rattle.std.proofs.lemmas.List.{append_assoc}
use Rattle.lgx_declare.proofs.Listings.{numbers_more}
use Rattle.lgx_declare.proofs.tasks.list_programs.Goals as goal

pub loop-i-preserved : goal.loop-i-preserved
loop-i-preserved c =
    rw (numbers_more c.args.programs.now c.args.names.now c.loop-i.i c.index-names-i.result (omega arith) c.index-names-i.is, ← append_assoc, ← c.loop-i.invariant) c.in_ok-list_program.ensures
