-- None of the edits before the index took it.
use Rattle.std.proofs.Common.{◌≡◌, drop}
use Rattle.lgx_edit.proofs.Again.{is_taken_by}
use Rattle.lgx_edit.proofs.judge.is_taken.Given as goal

abbrev pub invariant-loop-kept : goal.invariant-loop-kept
invariant-loop-kept l = is_taken_by l.routine l.rung l.accepted ≡ is_taken_by l.routine l.rung (drop l.kept-index l.accepted)
