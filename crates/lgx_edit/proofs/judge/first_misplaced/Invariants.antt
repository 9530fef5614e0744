-- The first is among those from the index on.
use Rattle.std.proofs.Common.{◌≡◌, drop}
use Rattle.std.specs.List.{position_from}
use Rattle.spec_machine.specs.Edits.{is_misplaced}
use Rattle.lgx_edit.proofs.judge.first_misplaced.Given as goal

abbrev pub invariant-loop-k : goal.invariant-loop-k
invariant-loop-k l = position_from (is_misplaced l.rungs) 0 l.edits ≡ position_from (is_misplaced l.rungs) l.k (drop l.k l.edits)
