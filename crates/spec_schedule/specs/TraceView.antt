-- A trace of the machine as numbers alone.
use Rattle.std.specs.Prelude.{ℕ, List, map, length, true, false, Option, Some, None}
use Rattle.std.specs.List.{position_from, zip}
use Rattle.lgx_num.specs.Name.{same}
use Rattle.spec_tables.specs.declared.fault.Fault.{Fault}
use Rattle.spec_tables.specs.declared.fault.Severity.{Severity}
use Rattle.spec_tables.specs.declared.fault.Severity.TheVariants as severity
use Rattle.spec_tables.specs.declared.task.TaskDef.{TaskDef}
use Rattle.spec_machine.specs.declared.answer.What.{What}
use Rattle.spec_machine.specs.declared.answer.What.TheVariants as what
use Rattle.spec_machine.specs.declared.answer.Mark.{Mark}
use Rattle.spec_machine.specs.declared.answer.Mark.TheVariants as mark
use Rattle.spec_machine.specs.declared.answer.Moment.{Moment}
use Rattle.spec_machine.specs.declared.reply.Reply.{Reply}
use Rattle.spec_machine.specs.declared.reply.Reply.TheVariants as reply
use Rattle.spec_machine.specs.declared.event.Action.{Action}
use Rattle.spec_machine.specs.declared.event.Action.TheVariants as action
use Rattle.spec_machine.specs.declared.event.Event.{Event}
use Rattle.spec_schedule.specs.declared.trace.TraceMark.{TraceMark}
use Rattle.spec_schedule.specs.declared.trace.TraceMark.TheVariants.{Plain, Up, Down, Trigger, Copy, Sync, CopyEnd, SyncEnd}
use Rattle.spec_schedule.specs.declared.trace.StepFault.{StepFault}
use Rattle.spec_schedule.specs.declared.trace.StepFault.TheVariants as fault
use Rattle.spec_schedule.specs.declared.trace.Verb.{Verb}
use Rattle.spec_schedule.specs.declared.trace.Verb.TheVariants.{Accept, Test, Untest, Assemble, Cancel, Run, Program, Clear, Other}
use Rattle.spec_schedule.specs.declared.trace.TraceAnswer.{TraceAnswer}
use Rattle.spec_schedule.specs.declared.trace.TraceAnswer.TheVariants.{Done, Number, No}
use Rattle.spec_schedule.specs.declared.trace.TraceEvent.{TraceEvent}
use Rattle.spec_schedule.specs.declared.trace.TraceEvent.TheVariants.{Idle, Began, Step, Left, Tick, Act}
use Rattle.spec_schedule.specs.declared.trace.AuditTask.{AuditTask}
use Rattle.spec_schedule.specs.declared.trace.Table.{Table}
use Rattle.spec_tables.specs.Tasks.{is_continuous}
use Rattle.spec_machine.specs.Project.{Project, ProgramText}
use Rattle.spec_machine.specs.Machine.{TraceEntry, OfStep, OfTick, OfAction, trace}

-- ---- the table of tasks

abbrev pub audit_task : TaskDef → List ℕ → AuditTask
audit_task d programs = record { continuous = is_continuous d.kind; priority = d.priority; programs = length programs; inhibited = d.inhibited }

abbrev pub audit_tasks : List TaskDef → List (List ℕ) → List AuditTask
audit_tasks tasks schedule = map (λ x. audit_task x.0 x.1) (zip tasks schedule)

abbrev pub table_of : Project → Table
table_of p = record { tasks = audit_tasks p.tasks p.schedule; programs = length p.programs }

-- ---- processor steps

abbrev pub mark_of : Mark → TraceMark
mark_of mark.Plain = Plain
mark_of mark.Up = Up
mark_of mark.Down = Down
mark_of (mark.Trigger t) = Trigger t
mark_of (mark.CopyStart false) = Copy
mark_of (mark.CopyStart true) = Sync
mark_of (mark.CopyEnd false) = CopyEnd
mark_of (mark.CopyEnd true) = SyncEnd

abbrev pub of_severity : Severity → StepFault
of_severity severity.Minor = fault.Minor
of_severity severity.Major = fault.Major

abbrev pub fault_of : Option Fault → StepFault
fault_of None = fault.Plain
fault_of (Some f) = of_severity f.severity

abbrev pub step_seen : Moment → What → TraceEvent
step_seen m what.Idle = Idle
step_seen m (what.Began t g v) = Began t g v
step_seen m (what.Ran t g) = Step t g (mark_of m.mark) (fault_of m.fault)
step_seen m (what.Copied t g) = Step t g (mark_of m.mark) (fault_of m.fault)
step_seen m (what.Left t g ended) = Left t g ended

-- ---- actions

abbrev pub verb_of : Action → Verb
verb_of (action.Accept a) = Accept
verb_of (action.Test p) = Test
verb_of (action.Untest p) = Untest
verb_of (action.Assemble p) = Assemble
verb_of (action.Cancel p) = Cancel
verb_of action.ModeRun = Run
verb_of action.ModeProgram = Program
verb_of action.Clear = Clear
verb_of _ = Other

-- the program that an edit names
abbrev pub named : Action → Option (List ℕ)
named (action.Accept a) = Some a.program
named (action.Test p) = Some p
named (action.Untest p) = Some p
named (action.Assemble p) = Some p
named (action.Cancel p) = Some p
named _ = None

-- its number, unless no program has that name
abbrev pub program_number : List ProgramText → Option (List ℕ) → Option ℕ
program_number programs None = None
program_number programs (Some name) = position_from (λ p. same p.name name) 0 programs

abbrev pub answer_of : Reply → TraceAnswer
answer_of reply.Done = Done
answer_of (reply.Word v) = Done
answer_of (reply.Version n) = Number n
answer_of _ = No

-- ---- events

abbrev pub seen : Project → TraceEntry → TraceEvent
seen p (OfStep m) = step_seen m m.what
seen p (OfTick r) = Tick r.released r.overlapped r.watchdog
seen p (OfAction lane a o) = Act lane (verb_of a) (program_number p.programs (named a)) (answer_of o.reply) o.released

-- what is seen of a journal's trace
abbrev pub view : Project → List Event → List TraceEvent
view p journal = map (seen p) (trace p journal)
