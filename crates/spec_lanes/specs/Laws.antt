-- What turns of the lanes make of a journal.
use Rattle.std.specs.Prelude.{◌≡◌, ℕ, ◌+◌, ◌<◌, ◌≤◌, List, [], ◌∷◌, ◌++◌, length, sum, replicate, slice_set, slice_index_or, true, false, Some, None, IsTrue}
use Rattle.spec_base.specs.declared.limits.TheConstants.{OWN_LANE}
use Rattle.spec_machine.specs.declared.event.Action.{Action}
use Rattle.spec_machine.specs.declared.event.Action.TheVariants.{ModeRun}
use Rattle.spec_machine.specs.declared.event.Event.{Event}
use Rattle.spec_machine.specs.declared.event.Event.TheVariants.{Act}
use Rattle.spec_machine.specs.Events.{steps_of}
use Rattle.spec_machine.specs.Project.{Project}
use Rattle.spec_machine.specs.ValidProject.{IsValidProject}
use Rattle.spec_text.specs.Scripts.{Script, is_script, actions_in}
use Rattle.spec_schedule.specs.Partial.{IsComplete}
use Rattle.spec_lanes.specs.Turns.{lane_of, done_by, next_of, due_action, is_spent, paced_step, most_events}
use Rattle.spec_lanes.specs.Served.{IsServed}

-- the journal that a run of a script begins with
abbrev pub opening : List Event
opening = Act OWN_LANE ModeRun ∷ []

abbrev pub OpeningIsServed : Type 0
OpeningIsServed =
    (project : Project) (script : Script) → IsValidProject project → IsTrue (is_script script) → IsServed project script (replicate (length script.lanes) 0) opening

-- one more action of a lane
abbrev pub with_one_more : List ℕ → ℕ → List ℕ
with_one_more counts lane = slice_set counts lane (slice_index_or counts lane 0 + 1)

-- an action of a lane was made: it is one more, and the steps are still spent if they were
pub record HasActed (project : Project) (script : Script) (counts : List ℕ) (journal : List Event) (lane : ℕ) (action : Action) : Type 0 where
  pub served : IsServed project script (with_one_more counts lane) (journal ++ Act lane action ∷ [])
  pub one_more : sum (with_one_more counts lane) ≡ sum counts + 1
  pub still_spent : is_spent project script journal ≡ true → is_spent project script (journal ++ Act lane action ∷ []) ≡ true

-- a due action may be made
abbrev pub DueActionsServe : Type 0
DueActionsServe =
    (project : Project) (script : Script) (counts : List ℕ) (journal : List Event) (lane : ℕ) (action : Action) →
    IsServed project script counts journal →
    due_action project script journal lane ≡ Some action →
    HasActed project script counts journal lane action

-- a processor step may be made until the steps are spent
abbrev pub StepsServe : Type 0
StepsServe =
    (project : Project) (script : Script) (counts : List ℕ) (journal : List Event) → IsServed project script counts journal → is_spent project script journal ≡ false → IsServed project script counts (journal ++ paced_step script.pace (steps_of journal + 1))

-- a lane has no action left, and all of its actions were made
pub record LaneIsDone (script : Script) (journal : List Event) (lane : ℕ) : Type 0 where
  pub none_left : next_of script journal lane ≡ None
  pub all_made : lane < length script.lanes → done_by lane journal ≡ length (lane_of script lane)

-- a lane is done if neither an action of it nor a step is to be made
abbrev pub NoneIsLeft : Type 0
NoneIsLeft =
    (project : Project) (script : Script) (counts : List ℕ) (journal : List Event) (lane : ℕ) →
    IsServed project script counts journal →
    due_action project script journal lane ≡ None →
    is_spent project script journal ≡ true →
    LaneIsDone script journal lane

-- a lane's count is the number of its actions in the journal, and at most the lane's length
pub record CountsLane (script : Script) (counts : List ℕ) (journal : List Event) (lane : ℕ) : Type 0 where
  pub count : slice_index_or counts lane 0 ≡ done_by lane journal
  pub few : done_by lane journal ≤ length (lane_of script lane)

-- so it is of each lane
abbrev pub CountsTell : Type 0
CountsTell =
    (project : Project) (script : Script) (counts : List ℕ) (journal : List Event) (lane : ℕ) → IsServed project script counts journal → lane < length script.lanes → CountsLane script counts journal lane

-- there are few events
abbrev pub FewEventsServe : Type 0
FewEventsServe =
    (project : Project) (script : Script) (counts : List ℕ) (journal : List Event) → IsServed project script counts journal → length journal ≤ most_events script

-- with every action made and the steps spent, the journal is complete
abbrev pub AllIsComplete : Type 0
AllIsComplete =
    (project : Project) (script : Script) (counts : List ℕ) (journal : List Event) → IsServed project script counts journal → sum counts ≡ actions_in script → is_spent project script journal ≡ true → IsComplete project script journal
