use Rattle.std.specs.List.{AllByRecursion as Each}
use Rattle.spec_scan.specs.Executable.{AreExecutable}
use Rattle.test_rungs.specs.declared.tags.TheConstants.{LEN}
use Rattle.test_rungs.proofs.program.check_each.Given as goal

abbrev pub invariant-loop-source : goal.invariant-loop-source
invariant-loop-source l = Each (AreExecutable LEN) l.rungs.items
