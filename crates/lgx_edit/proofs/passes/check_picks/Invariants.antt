-- The rungs so far are checked.
use Rattle.std.proofs.Common.{◌≡◌, length}
use Rattle.lgx_check.specs.Progress.{Checks}
use Rattle.lgx_edit.specs.Shared.{sources, checkeds}
use Rattle.lgx_edit.specs.Picks.{pick_sources}
use Rattle.lgx_edit.proofs.passes.check_picks.Given as goal

abbrev pub invariant-loop-pick : goal.invariant-loop-pick
invariant-loop-pick l = record {
  checks : Checks l.fn.checker.scope (pick_sources l.fn.picks.items) (length l.yielded) (checkeds l.rungs.items) l.checker;
  sources : sources l.rungs.items ≡ pick_sources l.yielded;
}
