-- The rungs so far are added.
use Rattle.std.proofs.Common.{◌≡◌, ◌++◌, map}
use Rattle.lgx_edit.specs.declared.pick.Pick.TheVariants.{New}
use Rattle.lgx_edit.proofs.merge.add_new.Given as goal

abbrev pub invariant-loop-rung : goal.invariant-loop-rung
invariant-loop-rung l = l.picks.items ≡ l.fn.picks.items ++ map New l.yielded
