-- Traces with the laws that they keep or break, beside those of the audit. Each of the broken ones is a legal one with one event
-- changed.
use Rattle.std.specs.Prelude.{ℕ, List, [], ◌∷◌, filter, not, true, Some, None}
use Rattle.spec_base.specs.declared.limits.TheConstants.{OWN_LANE}
use Rattle.spec_schedule.specs.declared.trace.TraceMark.{TraceMark}
use Rattle.spec_schedule.specs.declared.trace.TraceMark.TheVariants.{Plain as Unmarked, Copy, Sync, CopyEnd, SyncEnd}
use Rattle.spec_schedule.specs.declared.trace.StepFault.TheVariants.{Plain as NoFault}
use Rattle.spec_schedule.specs.declared.trace.Verb.{Verb}
use Rattle.spec_schedule.specs.declared.trace.Verb.TheVariants.{Accept, Test, Untest, Assemble, Cancel, Run, Program, Clear, Other}
use Rattle.spec_schedule.specs.declared.trace.TraceAnswer.{TraceAnswer}
use Rattle.spec_schedule.specs.declared.trace.TraceAnswer.TheVariants.{Done, Number, No}
use Rattle.spec_schedule.specs.declared.trace.TraceEvent.{TraceEvent}
use Rattle.spec_schedule.specs.declared.trace.TraceEvent.TheVariants.{Began, Step, Left, Act}
use Rattle.lgx_laws.specs.declared.error.Law.{Law}
use Rattle.lgx_laws.specs.Laws.{Roster, laws, keeps}
use Rattle.test_cases.specs.DutyCases.{tasks, schedule, table}
use Rattle.test_cases.specs.LegalCases.{mode_run}

-- a continuous task, a periodic one and an event task, with a program each
abbrev pub roster : Roster
roster = record { table = table; tasks = tasks; schedule = schedule }

-- the laws that a trace breaks
abbrev pub broken : List TraceEvent → List Law
broken trace = filter (λ law. not (keeps law roster trace)) laws

-- ---- copies

-- a step of the continuous task
abbrev pub step : TraceMark → TraceEvent
step mark = Step 0 0 mark NoFault

-- a copy of three elements
abbrev pub copies : List TraceEvent
copies = mode_run 1 ∷ Began 0 0 0 ∷ step Copy ∷ step Unmarked ∷ step CopyEnd ∷ Left 0 0 true ∷ []

-- it ends as a CPS
abbrev pub ends_as_cps : List TraceEvent
ends_as_cps = mode_run 1 ∷ Began 0 0 0 ∷ step Copy ∷ step Unmarked ∷ step SyncEnd ∷ Left 0 0 true ∷ []

-- it never ends
abbrev pub never_ends : List TraceEvent
never_ends = mode_run 1 ∷ Began 0 0 0 ∷ step Copy ∷ step Unmarked ∷ step Unmarked ∷ Left 0 0 true ∷ []

-- ---- starts

-- an input's word that releases the tasks of this mask
abbrev pub word : ℕ → TraceEvent
word mask = Act 3 Other None Done mask

-- the event task
abbrev pub starts : List TraceEvent
starts = mode_run 1 ∷ word 4 ∷ word 0 ∷ []

-- the periodic task
abbrev pub starts_periodic : List TraceEvent
starts_periodic = mode_run 1 ∷ word 2 ∷ word 0 ∷ []

-- the event task again, which is up
abbrev pub starts_again : List TraceEvent
starts_again = mode_run 1 ∷ word 4 ∷ word 4 ∷ []

-- the change to Run releases nobody
abbrev pub starts_nobody : List TraceEvent
starts_nobody = mode_run 0 ∷ word 4 ∷ word 0 ∷ []

-- ---- modes

-- a command on the mode, with its answer; it releases nobody
abbrev pub command : Verb → TraceAnswer → TraceEvent
command verb answer = Act OWN_LANE verb None answer 0

abbrev pub commands : List TraceEvent
commands = mode_run 1 ∷ command Run No ∷ command Program Done ∷ command Clear No ∷ mode_run 1 ∷ []

-- `clear` is done in Program, where no fault is to be cleared
abbrev pub clears : List TraceEvent
clears = mode_run 1 ∷ command Run No ∷ command Program Done ∷ command Clear Done ∷ mode_run 1 ∷ []

-- a change to Run is refused in Program
abbrev pub stays : List TraceEvent
stays = mode_run 1 ∷ command Run No ∷ command Program Done ∷ command Clear No ∷ command Run No ∷ []

-- a CPS holds a change of the mode
abbrev pub held : List TraceEvent
held = mode_run 1 ∷ Began 0 0 0 ∷ step Sync ∷ command Program No ∷ []

abbrev pub not_held : List TraceEvent
not_held = mode_run 1 ∷ Began 0 0 0 ∷ step Sync ∷ command Program Done ∷ []

-- ---- edits

-- a lane's edit of the first program, with its answer
abbrev pub edit : ℕ → Verb → TraceAnswer → TraceEvent
edit lane verb answer = Act lane verb (Some 0) answer 0

-- the lane that accepted the edits tests them, takes them back and assembles them; then another lane may accept some
abbrev pub edits : List TraceEvent
edits =
    mode_run 1 ∷ edit 0 Accept (Number 1) ∷ edit 0 Test Done ∷ edit 0 Untest Done ∷ edit 0 Assemble Done ∷ edit 1 Accept (Number 2) ∷ []

-- the other lane assembles them
abbrev pub another_assembles : List TraceEvent
another_assembles =
    mode_run 1 ∷ edit 0 Accept (Number 1) ∷ edit 0 Test Done ∷ edit 0 Untest Done ∷ edit 1 Assemble Done ∷ edit 1 Accept (Number 2) ∷ []

-- the owner may not take them back
abbrev pub owner_is_refused : List TraceEvent
owner_is_refused =
    mode_run 1 ∷ edit 0 Accept (Number 1) ∷ edit 0 Test Done ∷ edit 0 Untest No ∷ edit 0 Assemble Done ∷ edit 1 Accept (Number 2) ∷ []

-- ---- numbers of accepts

-- a cancelled one keeps its number
abbrev pub numbers : List TraceEvent
numbers = mode_run 1 ∷ edit 0 Accept (Number 1) ∷ edit 0 Cancel Done ∷ edit 1 Accept (Number 2) ∷ []

abbrev pub numbers_start_again : List TraceEvent
numbers_start_again = mode_run 1 ∷ edit 0 Accept (Number 1) ∷ edit 0 Cancel Done ∷ edit 1 Accept (Number 1) ∷ []

-- one is left out
abbrev pub number_is_left_out : List TraceEvent
number_is_left_out = mode_run 1 ∷ edit 0 Accept (Number 1) ∷ edit 0 Cancel Done ∷ edit 1 Accept (Number 3) ∷ []
