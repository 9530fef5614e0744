-- Each program before the index has its main routine.
use Rattle.std.proofs.Common.{◌≡◌, drop}
use Rattle.test_edits.specs.Mains.{have_mains}
use Rattle.test_edits.proofs.bench.have_mains.Given as goal

abbrev pub invariant-loop-program : goal.invariant-loop-program
invariant-loop-program l = have_mains l.programs ≡ have_mains (drop l.program-index l.programs)
