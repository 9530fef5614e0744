-- The first is among those from the index on, where those before it took what they name.
use Rattle.std.proofs.Common.{◌≡◌, take, drop}
use Rattle.spec_machine.specs.Edits.{first_again}
use Rattle.lgx_edit.proofs.Again.{taken_in, gathered}
use Rattle.lgx_edit.proofs.judge.first_again.Given as goal

abbrev pub invariant-loop-k : goal.invariant-loop-k
invariant-loop-k l =
    first_again 0 (taken_in l.routine l.accepted) l.edits ≡ first_again l.k (gathered (taken_in l.routine l.accepted) (take l.k l.edits)) (drop l.k l.edits)
