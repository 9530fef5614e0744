-- What a pass has seen of the journal, and what a turn shows it.
use Rattle.std.specs.Prelude.{◌≡◌, ℕ, ◌+◌, List, [], ◌∷◌, ◌++◌, length, slice_index_or, nat_lt, if◌then◌else◌, None, IsSomeAnd, IsTrue}
use mathlib.Core.List.{IsPrefix}
use Rattle.spec_machine.specs.declared.event.Event.{Event}
use Rattle.spec_machine.specs.declared.event.Event.TheVariants.{Act}
use Rattle.spec_machine.specs.Events.{is_accept, steps_of}
use Rattle.spec_machine.specs.Project.{Project}
use Rattle.spec_text.specs.Scripts.{Script}
use Rattle.spec_lanes.specs.Served.{IsServed}
use Rattle.spec_lanes.specs.Turns.{done_by, due_action, paced_step}
use Rattle.lgx_lanes.specs.declared.turn.Turn.{Turn}
use Rattle.lgx_lanes.specs.Turns.{MatchTurn}

-- whose lane it is, how many actions it had made, and the journal that it has seen
pub record FrontView : Type 0 where
  pub lane : ℕ
  pub actions : ℕ
  pub events : List Event

abbrev pub front_view : ℕ → ℕ → List Event → FrontView
front_view lane actions events = record { lane = lane; actions = actions; events = events }

-- a journal that turns of the script's lanes make, so a partial one
pub record IsSeen (project : Project) (script : Script) (events : List Event) : Type 0 where
  pub counts : List ℕ
  pub served : IsServed project script counts events

-- What was seen is a journal that turns of the script's lanes make, so a partial one; in it the lane made just `actions` actions:
-- the first of its list, in order, each in time. A lane that the script hasn't got made none.
pub record HasSeen (project : Project) (script : Script) (f : FrontView) : Type 0 where
  pub counts : List ℕ
  pub served : IsServed project script counts f.events
  pub own : f.actions ≡ slice_index_or counts f.lane 0

-- how many actions of the lane are in a journal; none of one that the script hasn't got
unfoldable pub done_in : Script → ℕ → List Event → ℕ
done_in script lane journal = if nat_lt lane (length script.lanes) then done_by lane journal else 0

-- What a turn of a lane appends to the journal that it found: the lane's due action; with none due a processor step with
-- its tick, or nothing; and nothing at an accept that is due but had no memory.
abbrev pub Appends : Project → Script → ℕ → List Event → Turn → List Event → Type 0
Appends project script lane found turn events =
    let due = due_action project script found lane in
    MatchTurn turn
    (IsSomeAnd due (λ action. events ≡ found ++ Act lane action ∷ []))
    ((due ≡ None) × (events ≡ found ++ paced_step script.pace (steps_of found + 1)))
    ((due ≡ None) × (events ≡ found))
    (IsSomeAnd due (λ action. IsTrue (is_accept action)) × (events ≡ found))

-- What a turn of a lane shows a pass that had seen some of the journal: the journal that it found goes on from that, and what is
-- seen now is that journal with what the turn appended.
pub record Tells (project : Project) (script : Script) (lane : ℕ) (seen : List Event) (turn : Turn) (events : List Event) : Type 0 where
  pub found : List Event
  pub goes_on : IsPrefix seen found
  pub appends : Appends project script lane found turn events
