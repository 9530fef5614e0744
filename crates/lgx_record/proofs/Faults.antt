-- The faults that an event records are those of its answer, by cases on what the event does.
use Rattle.std.proofs.Common.{◌≡◌, ℕ, Bool, true, false, cond, ◌+◌, length, List, ◌++◌, Option, Some, None, Result, Ok, Err, ℤ, refl, sym, ◌∙◌}
use Rattle.std.specs.Prelude.{nat_lt}
use Rattle.std.specs.Int.{w32}
use Rattle.lgx_num.specs.Image.{write_signed}
use Rattle.std.proofs.lemmas.List.{append-nil}
use Rattle.spec_tables.specs.declared.fault.Fault.{Fault}
use Rattle.spec_tables.specs.declared.conn.Slot.{Slot}
use Rattle.spec_tables.specs.declared.conn.ConnFault.{ConnFault}
use Rattle.spec_tables.specs.declared.force.ForceFault.{ForceFault}
use Rattle.spec_tables.specs.declared.task.Release.{Release}
use Rattle.spec_tables.specs.declared.task.Release.TheVariants.{Released, Overlap, Inhibited}
use Rattle.spec_tables.specs.Tasks.{release_answer, chosen, held}
use Rattle.spec_tables.specs.Connections.{slot, io_word}
use Rattle.spec_tables.specs.Forces.{Forces, forced, enable, disable, remove_all}
use Rattle.spec_scan.specs.declared.bound.Effect.{Effect}
use Rattle.spec_scan.specs.declared.bound.Effect.TheVariants.{Ran, Up, Down, Trigger, CopyStart, Copied, Left, Minor, Major}
use Rattle.spec_machine.specs.declared.answer.Outcome.{Outcome}
use Rattle.spec_machine.specs.declared.reply.Mode.{Mode}
use Rattle.spec_machine.specs.declared.reply.Mode.TheVariants.{Program, Run, Faulted}
use Rattle.spec_machine.specs.declared.reply.EditFault.{EditFault}
use Rattle.spec_machine.specs.declared.event.Action.{Action}
use Rattle.spec_machine.specs.declared.event.Action.TheVariants.{WordIn, WordOut, Accept, Test, Untest, Assemble, Cancel, ForceInstall, ForceEnable, ForceDisable, ForceRemove, ModeRun, ModeProgram, Clear}
use Rattle.spec_machine.specs.declared.event.Event.TheVariants as event
use Rattle.spec_machine.specs.Edits.{Edited, accept, on_accepted, test, untest, assemble, cancel}
use Rattle.spec_machine.specs.State.{State, Scan, Progress, progress_of, programs_of, Answered}
use Rattle.spec_machine.specs.Releases.{after_answer}
use Rattle.spec_scan.specs.Scan.{advance}
use Rattle.spec_machine.specs.ProcessorStep.{with_progress, after_effect, scan_step, task_step}
use Rattle.spec_machine.specs.Actions.{held_or, triggers, put_in, take_out, force_replied, install_on, edit_replied, mode_run_from, mode_program_from, clear_from, act}
use Rattle.spec_machine.proofs.TickFaults.{ticks_tell}
use Rattle.lgx_record.specs.Faults.{faults_in, AnswersTellFaults}

-- what an event of this state leads to has the faults of the state and then this one, if there is one
abbrev Tells : List Fault → List Fault → Option Fault → Type 0
Tells old new fault = new ≡ old ++ faults_in fault

none : (faults : List Fault) → Tells faults faults None
none faults = sym (append-nil faults)

-- ---- a processor step

released : (s : State) (t : ℕ) (a : Release) → Tells s.faults (after_answer a t s).state.faults (after_answer a t s).fault
released s t Released = none s.faults
released s t Overlap = refl
released s t Inhibited = none s.faults

either : (b : Bool) (x y : State) (faults : List Fault) → x.faults ≡ faults → y.faults ≡ faults → Tells faults (cond b x y).faults None
either true x y faults p q = p ∙ none faults
either false x y faults p q = q ∙ none faults

effect : (s : State) (t : ℕ) (p : Progress) (n : ℕ) (e : Effect) → Tells s.faults (after_effect s t p n e).state.faults (after_effect s t p n e).answer.fault
effect s t p n Ran = none s.faults
effect s t p n Up = none s.faults
effect s t p n Down = none s.faults
effect s t p n (Trigger other) = released s other (release_answer s.table other)
effect s t p n (CopyStart sync) = none s.faults
effect s t p n (Copied true sync) = none s.faults
effect s t p n (Copied false sync) = none s.faults
effect s t p n (Left true) = either (nat_lt (p.ended + 1) (length (programs_of s t))) _ _ s.faults refl refl
effect s t p n (Left false) = none s.faults
effect s t p n Minor = refl
effect s t p n (Major code) = refl

scan : (s : State) (t : ℕ) (p : Progress) (o : Option Scan) → Tells s.faults (scan_step s t p o).state.faults (scan_step s t p o).answer.fault
scan s t p None = none s.faults
scan s t p (Some k) =
    let a = advance k.rungs k.position s.image s.tick k.first p.flags in
    let p' : Progress = record { ended = p.ended; scan = Some (record k { position = a.position }); flags = a.flags } in
    effect (record (with_progress t p' s) { image = a.image }) t p' k.program a.effect

task : (s : State) (o : Option ℕ) → Tells s.faults (task_step s o).state.faults (task_step s o).answer.fault
task s None = none s.faults
task s (Some t) = scan s t (progress_of s t) (progress_of s t).scan

-- ---- an action

unless : (s : State) (b : Bool) (x : Answered Outcome) → Tells s.faults x.state.faults x.answer.fault → Tells s.faults (held_or b s x).state.faults (held_or b s x).answer.fault
unless s true x e = none s.faults
unless s false x e = e

triggered : (s : State) (m : Mode) (o : Option ℕ) → Tells s.faults (triggers s m o).state.faults (triggers s m o).answer.fault
triggered s Program o = none s.faults
triggered s Faulted o = none s.faults
triggered s Run None = none s.faults
triggered s Run (Some t) = released s t (release_answer s.table t)

put : (s : State) (value : ℤ) (r : Result Slot ConnFault) → Tells s.faults (put_in s value r).state.faults (put_in s value r).answer.fault
put s value (Err f) = none s.faults
put s value (Ok k) = triggered (record s { image = write_signed w32 s.image k.byte (forced s.forces k.io value) }) s.mode k.trigger

taken : (s : State) (r : Result Slot ConnFault) → Tells s.faults (take_out s r).state.faults (take_out s r).answer.fault
taken s (Err f) = none s.faults
taken s (Ok k) = none s.faults

forces : (s : State) (r : Result Forces ForceFault) → Tells s.faults (force_replied s r).state.faults (force_replied s r).answer.fault
forces s (Err f) = none s.faults
forces s (Ok k) = none s.faults

edited : (s : State) (r : Result Edited EditFault) → Tells s.faults (edit_replied s r).state.faults (edit_replied s r).answer.fault
edited s (Err f) = none s.faults
edited s (Ok e) = none s.faults

run : (s : State) (m : Mode) → Tells s.faults (mode_run_from m s).state.faults (mode_run_from m s).answer.fault
run s Program = none s.faults
run s Run = none s.faults
run s Faulted = none s.faults

program : (s : State) (m : Mode) → Tells s.faults (mode_program_from m s).state.faults (mode_program_from m s).answer.fault
program s Program = none s.faults
program s Run = none s.faults
program s Faulted = none s.faults

cleared : (s : State) (m : Mode) → Tells s.faults (clear_from m s).state.faults (clear_from m s).answer.fault
cleared s Program = none s.faults
cleared s Run = none s.faults
cleared s Faulted = none s.faults

action : (s : State) (lane : ℕ) (a : Action) → Tells s.faults (act s lane a).state.faults (act s lane a).answer.fault
action s lane (WordIn conn word value) = unless s (held s.table) _ (put s value (slot s.plan.conns conn word false))
action s lane (WordOut conn word) = unless s (held s.table) _ (taken s (slot s.plan.conns conn word true))
action s lane (Accept command) = edited s (accept s.plan.tags s.plan.names s.books lane command)
action s lane (Test name) = edited s (on_accepted test s.books lane name)
action s lane (Untest name) = edited s (on_accepted untest s.books lane name)
action s lane (Assemble name) = edited s (on_accepted assemble s.books lane name)
action s lane (Cancel name) = edited s (on_accepted cancel s.books lane name)
action s lane (ForceInstall conn word mask value) = forces s (install_on s.forces (io_word s.plan.conns conn word) mask value)
action s lane ForceEnable = forces s (enable s.forces)
action s lane ForceDisable = forces s (Ok (disable s.forces))
action s lane ForceRemove = forces s (remove_all s.forces)
action s lane ModeRun = unless s (held s.table) _ (run s s.mode)
action s lane ModeProgram = unless s (held s.table) _ (program s s.mode)
action s lane Clear = unless s (held s.table) _ (cleared s s.mode)

-- ---- all events

pub answers_tell_faults : AnswersTellFaults
answers_tell_faults s event.Cpu = task s (chosen s.table)
answers_tell_faults s event.Tick = ticks_tell s
answers_tell_faults s (event.Act lane a) = action s lane a
