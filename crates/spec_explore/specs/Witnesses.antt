-- When an event that may be made shows a line.
use Rattle.std.specs.Prelude.{◌≡◌, ℕ, ◌+◌, ◌≤◌, List, [], ◌∷◌, ◌++◌, true, false, Option, Some, IsTrue}
use Rattle.spec_base.specs.declared.limits.TheConstants.{OWN_LANE}
use Rattle.spec_machine.specs.State.{Answered}
use Rattle.spec_machine.specs.declared.event.Action.{Action}
use Rattle.spec_machine.specs.declared.event.Action.TheVariants.{ModeRun}
use Rattle.spec_machine.specs.declared.event.Event.{Event}
use Rattle.spec_machine.specs.declared.event.Event.TheVariants.{Cpu, Tick, Act}
use Rattle.spec_machine.specs.Events.{steps_of}
use Rattle.spec_machine.specs.Machine.{step, run, TraceEntry}
use Rattle.spec_machine.specs.Project.{Project}
use Rattle.spec_machine.specs.ValidProject.{IsValidProject}
use Rattle.spec_text.specs.declared.script.Timed.{Timed}
use Rattle.spec_text.specs.Scripts.{Script, is_script}
use Rattle.spec_lanes.specs.Turns.{ticks_of, next_of, due_action, is_spent, paced_step}
use Rattle.spec_lanes.specs.Served.{IsServed}
use Rattle.spec_lanes.specs.Laws.{opening}
use Rattle.spec_explore.specs.declared.question.Question.{Question}
use Rattle.spec_explore.specs.Questions.{holds_some, IsFirstLine, is_late, InWindow, IsNeverBefore, IsWitness}

-- a journal stays within the window by an event after which no action is late
abbrev pub WindowsGrow : Type 0
WindowsGrow =
    (script : Script) (within : Option ℕ) (journal : List Event) (e : Event) → InWindow within script journal → ((lane : ℕ) → is_late within script (journal ++ e ∷ []) lane ≡ false) → InWindow within script (journal ++ e ∷ [])

-- after a processor step none is late that wasn't before
abbrev pub StepsAreInTime : Type 0
StepsAreInTime = (script : Script) (within : Option ℕ) (journal : List Event) (lane : ℕ) → is_late within script (journal ++ Cpu ∷ []) lane ≡ is_late within script journal lane

-- so an action is made at most `most` ticks after its time
abbrev pub ActionsAreInTime : Type 0
ActionsAreInTime =
    (script : Script) (most : ℕ) (before after : List Event) (lane : ℕ) (action : Action) (t : Timed) → InWindow (Some most) script (before ++ Act lane action ∷ after) → next_of script before lane ≡ Some t → ticks_of before ≤ t.at + most

-- at the opening no action is late
abbrev pub OpeningsAreInTime : Type 0
OpeningsAreInTime = (script : Script) (within : Option ℕ) → InWindow within script opening

-- where a first line holds, some line holds; so a witness is no moment at which none does
abbrev pub FirstLinesHold : Type 0
FirstLinesHold = (p : Project) (q : Question) (x : Answered TraceEntry) (line : ℕ) → IsFirstLine p q x line → holds_some p q x ≡ true

-- the opening
abbrev pub OpeningsWitness : Type 0
OpeningsWitness =
    (p : Project) (script : Script) (q : Question) (line : ℕ) → IsValidProject p → IsTrue (is_script script) → IsFirstLine p q (step (run p []) (Act OWN_LANE ModeRun)) line → IsWitness p script q [] (Act OWN_LANE ModeRun) line

-- a due action
abbrev pub ActionsWitness : Type 0
ActionsWitness =
    (p : Project) (script : Script) (q : Question) (counts : List ℕ) (journal : List Event) (lane : ℕ) (action : Action) (line : ℕ) →
    IsServed p script counts journal →
    due_action p script journal lane ≡ Some action →
    InWindow q.within script (journal ++ Act lane action ∷ []) →
    IsNeverBefore p script q (steps_of journal) →
    IsFirstLine p q (step (run p journal) (Act lane action)) line →
    IsWitness p script q journal (Act lane action) line

-- a processor step
abbrev pub StepsWitness : Type 0
StepsWitness =
    (p : Project) (script : Script) (q : Question) (counts : List ℕ) (journal : List Event) (line : ℕ) →
    IsServed p script counts journal →
    is_spent p script journal ≡ false →
    InWindow q.within script (journal ++ paced_step script.pace (steps_of journal + 1)) →
    IsNeverBefore p script q (steps_of journal + 1) →
    IsFirstLine p q (step (run p journal) Cpu) line →
    IsWitness p script q journal Cpu line

-- the tick after it
abbrev pub TicksWitness : Type 0
TicksWitness =
    (p : Project) (script : Script) (q : Question) (counts : List ℕ) (journal : List Event) (line : ℕ) →
    IsServed p script counts journal →
    is_spent p script journal ≡ false →
    paced_step script.pace (steps_of journal + 1) ≡ Cpu ∷ Tick ∷ [] →
    InWindow q.within script (journal ++ Cpu ∷ Tick ∷ []) →
    IsNeverBefore p script q (steps_of journal + 1) →
    IsFirstLine p q (step (run p (journal ++ Cpu ∷ [])) Tick) line →
    IsWitness p script q (journal ++ Cpu ∷ []) Tick line
