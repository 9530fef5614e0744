-- Whether an action would be late, by the counts of the lanes' actions and a tick.
use Rattle.std.specs.Prelude.{◌≡◌, ℕ, List, Bool, true, false, Option, Some, None, slice_get, slice_index_or}
use Rattle.spec_text.specs.Scripts.{Script}
use Rattle.spec_lanes.specs.Turns.{lane_of}
use Rattle.spec_explore.specs.Questions.{is_late_at}

-- the next action of the lane, by the count of those that it made
abbrev pub is_late_by : Option ℕ → Script → List ℕ → ℕ → ℕ → Bool
is_late_by None script counts tick lane = false
is_late_by (Some most) script counts tick lane = is_late_at most tick (slice_get (lane_of script lane) (slice_index_or counts lane 0))

-- that of some lane
abbrev pub SomeIsLate : Option ℕ → Script → List ℕ → ℕ → Type 0
SomeIsLate within script counts tick = (lane : ℕ) × (is_late_by within script counts tick lane ≡ true)

abbrev pub NoneIsLate : Option ℕ → Script → List ℕ → ℕ → Type 0
NoneIsLate within script counts tick = (lane : ℕ) → is_late_by within script counts tick lane ≡ false
