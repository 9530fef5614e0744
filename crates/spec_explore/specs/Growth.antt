-- How partial journals grow.
use Rattle.std.specs.Prelude.{◌≡◌, ℕ, ◌+◌, List, [], ◌∷◌, ◌++◌, length, replicate, false, Some, IsTrue}
use Rattle.spec_machine.specs.declared.event.Action.{Action}
use Rattle.spec_machine.specs.declared.event.Event.{Event}
use Rattle.spec_machine.specs.declared.event.Event.TheVariants.{Act}
use Rattle.spec_machine.specs.Events.{steps_of}
use Rattle.spec_machine.specs.Project.{Project}
use Rattle.spec_machine.specs.ValidProject.{IsValidProject}
use Rattle.spec_text.specs.Scripts.{Script, is_script}
use Rattle.spec_schedule.specs.Partial.{IsPartial}
use Rattle.spec_lanes.specs.Turns.{due_action, is_spent, paced_step}
use Rattle.spec_lanes.specs.Served.{IsServed}
use Rattle.spec_lanes.specs.Laws.{opening, with_one_more}

-- The last that a journal did: it is the opening alone, a due action was made, or a processor step with its tick that wasn't
-- spent. What was before is of the kind `Before`.
pub data Last (project : Project) (script : Script) (Before : List ℕ → List Event → Type 0) : List ℕ → List Event → Type 0 where
  Opened : Last project script Before (replicate (length script.lanes) 0) opening
  Acted : (counts : List ℕ) (journal : List Event) (lane : ℕ) (action : Action) → Before counts journal → due_action project script journal lane ≡ Some action → Last project script Before (with_one_more counts lane) (journal ++ Act lane action ∷ [])
  Stepped : (counts : List ℕ) (journal : List Event) → Before counts journal → is_spent project script journal ≡ false → Last project script Before counts (journal ++ paced_step script.pace (steps_of journal + 1))

abbrev pub PartialJournalsGrow : Type 0
PartialJournalsGrow =
    (project : Project) (script : Script) (counts : List ℕ) (journal : List Event) → IsValidProject project → IsTrue (is_script script) → IsPartial project script counts journal → Last project script (IsPartial project script) counts journal

-- so each is served
abbrev pub PartialJournalsAreServed : Type 0
PartialJournalsAreServed =
    (project : Project) (script : Script) (counts : List ℕ) (journal : List Event) → IsValidProject project → IsTrue (is_script script) → IsPartial project script counts journal → IsServed project script counts journal
