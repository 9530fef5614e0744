use Rattle.std.proofs.Common.{[], ◌∷◌, sym, subst}
use Rattle.std.specs.List.{AllByRecursion as Each}
use Rattle.spec_base.proofs.Lists.{each_append}
use Rattle.spec_scan.specs.Executable.{AreExecutable}
use Rattle.test_rungs.specs.declared.tags.TheConstants.{LEN}
use Rattle.test_rungs.proofs.program.check_each.Goals as goal

pub loop-source-preserved : goal.loop-source-preserved
loop-source-preserved c =
    subst (Each (AreExecutable LEN)) (sym c.in_ok-push.ensures.items)
    (each_append (AreExecutable LEN) c.loop-source.rungs.items (c.in_ok-checked.checked ∷ []) c.loop-source.invariant (c.in_ok-checked.ensures, tt))
