-- The actions before are there, with their steps.
use Rattle.std.proofs.Common.{◌≡◌, take}
use Rattle.spec_machine.specs.Events.{steps_of}
use Rattle.spec_lanes.specs.Laws.{opening}
use Rattle.lgx_walker.specs.Trails.{placed_from}
use Rattle.lgx_walker.proofs.witness.journal_of.Given as goal

abbrev pub invariant-loop-placed : goal.invariant-loop-placed
invariant-loop-placed l =
    (l.journal.events ≡ placed_from l.script opening (take l.placed-index l.trail.placed))
    × (l.done ≡ steps_of l.journal.events)
