-- Partial journals are beginnings of complete ones.
use Rattle.std.specs.Prelude.{◌≡◌, ℕ, List, ◌++◌, None, IsTrue}
use Rattle.spec_machine.specs.declared.event.Event.{Event}
use Rattle.spec_machine.specs.Project.{Project}
use Rattle.spec_machine.specs.ValidProject.{IsValidProject}
use Rattle.spec_text.specs.Scripts.{Script, is_script}
use Rattle.spec_schedule.specs.Partial.{IsComplete}
use Rattle.spec_lanes.specs.Served.{IsServed}
use Rattle.spec_explore.specs.declared.question.Question.{Question}
use Rattle.spec_explore.specs.Questions.{IsNever, IsNeverBefore}

-- it goes on to a complete one
abbrev pub Completes : Project → Script → List Event → Type 0
Completes project script journal = (rest : List Event) × IsComplete project script (journal ++ rest)

abbrev pub PartialJournalsComplete : Type 0
PartialJournalsComplete =
    (project : Project) (script : Script) (counts : List ℕ) (journal : List Event) → IsServed project script counts journal → Completes project script journal

-- Without a window nothing is lost: what never holds in a complete journal holds at no moment.
abbrev pub NeverIsExact : Type 0
NeverIsExact =
    (project : Project) (script : Script) (q : Question) → IsValidProject project → IsTrue (is_script script) → q.within ≡ None → IsNever project script q → (k : ℕ) → IsNeverBefore project script q k
