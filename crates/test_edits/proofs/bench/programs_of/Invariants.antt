-- The programs so far.
use Rattle.test_edits.specs.Programs.{ArePrograms}
use Rattle.test_edits.proofs.bench.programs_of.Given as goal

abbrev pub invariant-loop-program : goal.invariant-loop-program
invariant-loop-program l = ArePrograms l.tags.declarations l.programs.items
