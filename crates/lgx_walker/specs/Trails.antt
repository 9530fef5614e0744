-- The journal that a trail describes.
use Rattle.std.specs.Prelude.{ℕ, zero, suc, ◌+◌, List, [], ◌∷◌, ◌++◌, Option, Some, None, slice_get, slice_index_or}
use Rattle.spec_machine.specs.declared.event.Event.{Event}
use Rattle.spec_machine.specs.declared.event.Event.TheVariants.{Cpu, Tick, Act}
use Rattle.spec_machine.specs.Events.{steps_of}
use Rattle.spec_text.specs.declared.script.Timed.{Timed}
use Rattle.spec_text.specs.Scripts.{Script}
use Rattle.spec_lanes.specs.Turns.{lane_of, paced_step}
use Rattle.spec_lanes.specs.Laws.{opening, with_one_more}
use Rattle.lgx_explore.specs.declared.node.Next.{Next}
use Rattle.lgx_explore.specs.declared.node.Next.TheVariants as next
use Rattle.lgx_walker.specs.declared.trail.Placed.{Placed}
use Rattle.lgx_walker.specs.declared.trail.Trail.{Trail}

-- ---- journals

-- n processor steps after `done` of them, each with its tick if it has one
abbrev pub steps_from : ℕ → ℕ → ℕ → List Event
steps_from pace done zero = []
steps_from pace done (suc n) = steps_from pace done n ++ paced_step pace (done + n + 1)

-- the journal with n more processor steps
abbrev pub with_steps : Script → List Event → ℕ → List Event
with_steps script journal n = journal ++ steps_from script.pace (steps_of journal) n

-- an action of a lane as an event; none if the lane has no such
abbrev pub act_of : ℕ → Option Timed → List Event
act_of lane None = []
act_of lane (Some t) = Act lane t.action ∷ []

-- the journal with the steps before an action, and then the action
abbrev pub with_placed : Script → List Event → Placed → List Event
with_placed script journal m = with_steps script journal m.since ++ act_of m.lane (slice_get (lane_of script m.lane) m.index)

abbrev pub placed_from : Script → List Event → List Placed → List Event
placed_from script journal [] = journal
placed_from script journal (m ∷ ms) = placed_from script (with_placed script journal m) ms

-- the opening, the actions with the steps before each, and `since` steps after the last
abbrev pub journal_of : Script → List Placed → ℕ → List Event
journal_of script placed since = with_steps script (placed_from script opening placed) since

-- ---- trails

abbrev pub trail_of : List ℕ → List Placed → ℕ → ℕ → Trail
trail_of counts placed steps since = record { counts = counts; placed = placed; steps = steps; since = since }

-- the next action of the lane, with the steps before it
abbrev pub next_placed : Trail → ℕ → Placed
next_placed t lane = record { lane = lane; index = slice_index_or t.counts lane 0; since = t.since }

-- the trail with the next action of the lane
abbrev pub with_action : Trail → ℕ → Trail
with_action t lane = trail_of (with_one_more t.counts lane) (t.placed ++ next_placed t lane ∷ []) t.steps 0

-- what may be made next after the trail's journal: the lane's next action, a processor step, or one with its tick
abbrev pub next_events : Script → Trail → Next → List Event
next_events script t (next.Action lane) = act_of lane (slice_get (lane_of script lane) (slice_index_or t.counts lane 0))
next_events script t next.Step = Cpu ∷ []
next_events script t next.Tick = Cpu ∷ Tick ∷ []
