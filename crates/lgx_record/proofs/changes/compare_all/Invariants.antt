use Rattle.std.proofs.Common.{◌-◌, ◌+◌, ◌≤◌, length}
use Rattle.spec_machine.specs.State.{State}
use Rattle.lgx_core.specs.Represents.{RepresentsController}
use Rattle.lgx_record.specs.Changes.{numbers_at}
use Rattle.lgx_record.proofs.Changed.{IsSoFar}
use Rattle.lgx_record.proofs.changes.compare_all.Given as goal

abbrev pub invariant-loop-watch : goal.invariant-loop-watch
invariant-loop-watch l = record {
  so_far : (s : State) → RepresentsController l.controller s → IsSoFar l.initial.log l.log l.at l.initial.values l.values (numbers_at s.image l.places) l.from;
  within : l.from ≤ length l.places;
  lost : l.log.lost ≤ l.initial.log.lost + l.from;
}

abbrev pub decreases-loop-watch : goal.decreases-loop-watch
decreases-loop-watch l = length l.places - l.from
