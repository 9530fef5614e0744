-- The rungs so far are shared; the other checked ones are left.
use Rattle.std.proofs.Common.{◌≡◌, ◌++◌}
use Rattle.std.specs.Vec.Iter.{into_iter_items}
use Rattle.lgx_edit.specs.Shared.{sources, checkeds}
use Rattle.lgx_edit.proofs.texts.shared_rungs.Given as goal

abbrev pub invariant-loop-source : goal.invariant-loop-source
invariant-loop-source l = record {
  sources : sources l.rungs.items ≡ l.yielded;
  checked : l.fn.checked.items ≡ checkeds l.rungs.items ++ into_iter_items l.others;
}
