-- None of the lanes before is late.
use Rattle.std.proofs.Common.{◌≡◌, ℕ, ◌<◌, get_or, false}
use Rattle.std.specs.Prelude.{slice_get}
use Rattle.spec_lanes.specs.Turns.{lane_of}
use Rattle.spec_explore.specs.Questions.{is_late_at}
use Rattle.lgx_walker.proofs.late.is_some_late.Given as goal

abbrev pub invariant-loop-lane : goal.invariant-loop-lane
invariant-loop-lane l = (k : ℕ) → k < l.lane → is_late_at l.most l.tick (slice_get (lane_of l.script k) (get_or l.counts k 0)) ≡ false
