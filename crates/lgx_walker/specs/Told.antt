-- What is said of all journals of a script.
use Rattle.std.specs.Prelude.{◌≡◌, ℕ, List, [], ◌∷◌, ◌++◌, IsTrue}
use Rattle.spec_machine.specs.declared.event.Event.{Event}
use Rattle.spec_machine.specs.Project.{Project}
use Rattle.spec_machine.specs.ValidProject.{IsValidProject}
use Rattle.spec_text.specs.Scripts.{Script, is_script}
use Rattle.spec_explore.specs.declared.question.Question.{Question}
use Rattle.spec_explore.specs.Questions.{IsNever, IsNeverBefore, IsWitness}
use Rattle.lgx_explore.specs.declared.found.Found.{Found}
use Rattle.lgx_explore.specs.Found.{Tells}
use Rattle.lgx_walker.specs.declared.valued.ValuedController.{ValuedController}
use Rattle.lgx_walker.specs.declared.walker.Walker.{Walker}
use Rattle.lgx_walker.specs.Walks.{Watches, walked}
use Rattle.lgx_walker.specs.declared.told.Told.{Told}
use Rattle.lgx_walker.specs.declared.told.Told.TheVariants as told

-- no line holds at any moment, and so in no complete journal
pub record NeverHolds (p : Project) (script : Script) (q : Question) : Type 0 where
  pub before : (k : ℕ) → IsNeverBefore p script q k
  pub never : IsNever p script q

-- the events end with one after which the line holds as the first, and they are a witness
pub record EndsShowing (p : Project) (script : Script) (q : Question) (events : List Event) (line : ℕ) : Type 0 where
  pub before : List Event
  pub event : Event
  pub is : events ≡ before ++ event ∷ []
  pub witness : IsWitness p script q before event line

abbrev pub IsTold : Project → Script → Question → Told → Type 0
IsTold p script q told.Never = NeverHolds p script q
IsTold p script q (told.Witness journal line) = EndsShowing p script q journal.events line
IsTold p script q (told.Unknown k) = IsNeverBefore p script q k

-- ---- on the way there

-- it watches the empty journal of some project
abbrev pub IsAtStart : ValuedController → Type 0
IsAtStart watcher = (p : Project) × Watches watcher p []

-- what was found is said of some valid project and some question
pub record IsFound (script : Script) (found : Found Walker) : Type 0 where
  pub project : Project
  pub question : Question
  pub valid : IsValidProject project
  pub proper : IsTrue (is_script script)
  pub tells : Tells walked project script question found
