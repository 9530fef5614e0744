-- What a call gives: its answer is the machine's, and afterwards the parts represent the machine's state.
use Rattle.std.specs.Prelude.{◌≡◌, ℕ, ◌^◌, ◌<◌, None, Result, Ok, Err}
use Rattle.spec_tables.specs.declared.force.ForceFault.{ForceFault}
use Rattle.spec_machine.specs.State.{State, Answered}
use Rattle.spec_machine.specs.declared.reply.EditFault.{EditFault}
use Rattle.spec_machine.specs.declared.reply.Reply.{Reply}
use Rattle.spec_machine.specs.declared.reply.Reply.TheVariants as reply
use Rattle.spec_machine.specs.declared.answer.TickReport.{TickReport}
use Rattle.spec_machine.specs.declared.answer.Outcome.{Outcome}
use Rattle.spec_machine.specs.Releases.{AfterRelease}
use Rattle.lgx_num.specs.declared.memory.Memory.{Memory}
use Rattle.lgx_edit.specs.declared.error.EditError.{EditError}
use Rattle.lgx_edit.specs.declared.error.EditError.TheVariants as error
use Rattle.lgx_steps.specs.declared.parts.ControllerParts.{ControllerParts}
use Rattle.lgx_steps.specs.declared.parts.Released.{Released}
use Rattle.lgx_steps.specs.PartsView.{PartsView, view_of}
use Rattle.lgx_steps.specs.Represents.{RepresentsState}

-- A call matches the machine: its answer is the machine's, and this holds of the state that the machine has then.
pub record MatchesAnswer {A : Type 0} (Holds : State → Type 0) (answer : A) (x : Answered A) : Type 0 where
  pub answers : answer ≡ x.answer
  pub represents : Holds x.state

-- afterwards parts with this view represent that state
abbrev pub ViewGives : {A : Type 0} → ℕ → PartsView → A → Answered A → Type 0
ViewGives n v answer x = MatchesAnswer (RepresentsState n v) answer x

abbrev pub Gives : {A : Type 0} → ℕ → ControllerParts → A → Answered A → Type 0
Gives n v answer x = ViewGives n (view_of v) answer x

-- the same of a release, which answers the fault of an overlap too
pub record ReleaseGives (n : ℕ) (v : PartsView) (released : Released) (x : AfterRelease) : Type 0 where
  pub answer : released.answer ≡ x.answer
  pub fault : released.fault ≡ x.fault
  pub represents : RepresentsState n v x.state

abbrev pub GivesRelease : ℕ → ControllerParts → Released → AfterRelease → Type 0
GivesRelease n v released x = ReleaseGives n (view_of v) released x

-- ---- a report under way

-- its masks have bits below t alone
pub record IsBelow (t : ℕ) (r : TickReport) : Type 0 where
  pub released : r.released < 2 ^ t
  pub overlapped : r.overlapped < 2 ^ t

-- ---- answers to commands

abbrev pub replied_by : Reply → Outcome
replied_by r = record { reply = r; fault = None; released = 0 }

abbrev pub force_outcome : Result (Unit {0}) ForceFault → Outcome
force_outcome (Ok done) = replied_by reply.Done
force_outcome (Err f) = replied_by (reply.Force f)

abbrev pub edit_outcome : Result (Unit {0}) EditFault → Outcome
edit_outcome (Ok done) = replied_by reply.Done
edit_outcome (Err f) = replied_by (reply.Edit f)

-- what an accept that isn't done is answered: out of memory it is no event
abbrev pub refusal_of : EditError → Result Outcome Memory
refusal_of (error.Edit f) = Ok (replied_by (reply.Edit f))
refusal_of error.Memory = Err (record {})
