-- Each event keeps the tasks orderly, so they are in every state that a journal leads to.
use Rattle.std.proofs.Common.{◌≡◌, ℕ, ◌+◌, Bool, true, false, List, [], ◌∷◌, Option, Some, None, refl, sym, ◌∙◌, subst, Ok, Err}
use Rattle.std.proofs.lemmas.Bool.{cond_both}
use Rattle.std.specs.Prelude.{ℤ, Result, fold, nat_lt, length}
use Rattle.std.specs.Int.{w32}
use Rattle.std.specs.List.{range_with_len}
use Rattle.lgx_num.specs.Image.{write_signed}
use Rattle.spec_machine.specs.declared.answer.Outcome.{Outcome}
use Rattle.spec_machine.specs.declared.answer.TickReport.{TickReport}
use Rattle.spec_machine.specs.declared.reply.Mode.{Mode}
use Rattle.spec_machine.specs.declared.reply.Mode.TheVariants.{Program, Run, Faulted}
use Rattle.spec_tables.specs.declared.conn.ConnFault.{ConnFault}
use Rattle.spec_tables.specs.declared.force.ForceFault.{ForceFault}
use Rattle.spec_machine.specs.declared.reply.EditFault.{EditFault}
use Rattle.spec_tables.specs.declared.conn.Slot.{Slot}
use Rattle.spec_machine.specs.declared.event.Event.{Event}
use Rattle.spec_machine.specs.declared.event.Event.TheVariants.{Cpu, Tick, Act}
use Rattle.spec_machine.specs.declared.event.Action.{Action}
use Rattle.spec_machine.specs.declared.event.Action.TheVariants.{WordIn, WordOut, Accept, Test, Untest, Assemble, Cancel, ForceInstall, ForceEnable, ForceDisable, ForceRemove, ModeRun, ModeProgram, Clear}
use Rattle.spec_scan.specs.declared.bound.Effect.{Effect}
use Rattle.spec_scan.specs.declared.bound.Effect.TheVariants.{Ran, Up, Down, Trigger, CopyStart, Copied, Left, Minor, Major}
use Rattle.spec_tables.specs.declared.task.Release.{Release}
use Rattle.spec_tables.specs.declared.task.Release.TheVariants.{Released, Overlap, Inhibited}
use Rattle.spec_tables.specs.Tasks.{Table, state_of, region_count, chosen, release_answer, held, rotate, expired, due}
use Rattle.spec_scan.specs.Scan.{Advanced, advance}
use Rattle.spec_tables.specs.Forces.{Forces, forced, enable, remove_all}
use Rattle.spec_tables.specs.Connections.{slot, io_word}
use Rattle.spec_machine.specs.Edits.{Edited, accept, on_accepted, test, untest, assemble, cancel}
use Rattle.spec_machine.specs.Project.{Project}
use Rattle.spec_machine.specs.State.{State, Scan, Progress, progress_of, programs_of, start, Answered}
use Rattle.spec_machine.specs.Releases.{after_answer, release_task}
use Rattle.spec_machine.specs.ProcessorStep.{with_progress, scan_ended, after_effect, after_advance, scan_step, task_step}
use Rattle.spec_machine.specs.Ticks.{quiet, release_if_due, after_watchdogs, tick}
use Rattle.spec_machine.specs.Actions.{held_or, triggers, put_in, take_out, install_on, force_replied, edit_replied, mode_run_from, mode_program_from, clear_from, act}
use Rattle.spec_machine.specs.Machine.{step, run_from as run_on, run}
use Rattle.spec_tables.proofs.StateLists.{none_up}
use Rattle.spec_machine.proofs.OrderlyTables.{Orderly, chosen_in_run, down_orderly, stop_orderly, region_orderly, copy_orderly, put_up_orderly, released_free, start_orderly, finish_orderly, rotate_orderly}

abbrev pub IsOrderly : State → Type 0
IsOrderly s = Orderly s.mode s.table

-- an orderly table in the mode Run
in_run : (m : Mode) (s : Table) → m ≡ Run → Orderly m s → Orderly Run s
in_run m s e h = subst (λ n. Orderly n s) e h

from_run : (m : Mode) (s : Table) → m ≡ Run → Orderly Run s → Orderly m s
from_run m s e h = subst (λ n. Orderly n s) (sym e) h

-- ---- releases

by_answer : (a : Release) (t : ℕ) (s : State) → release_answer s.table t ≡ a → s.mode ≡ Run → IsOrderly s → IsOrderly (after_answer a t s).state
by_answer Released t s r e h =
    from_run s.mode _ e (put_up_orderly s.table t s.tick (released_free s.table t r) (in_run s.mode s.table e h))
by_answer Overlap t s r e h = h
by_answer Inhibited t s r e h = h

by_release : (t : ℕ) (s : State) → s.mode ≡ Run → IsOrderly s → IsOrderly (release_task t s).state
by_release t s e h = by_answer (release_answer s.table t) t s refl e h

-- ---- the processor step

after_end : (t : ℕ) (p : Progress) (s : State) → s.mode ≡ Run → IsOrderly s → chosen s.table ≡ Some t → IsOrderly (scan_ended t p s)
after_end t p s e h c =
    cond_both (nat_lt (p.ended + 1) (length (programs_of s t))) _ _ IsOrderly (λ q. region_orderly s.mode s.table t 0 h c) (λ q. from_run s.mode _ e (finish_orderly s.table t s.tick (in_run s.mode s.table e h) c))

by_effect : (s : State) (t : ℕ) (p : Progress) (n : ℕ) (effect : Effect) → s.mode ≡ Run → IsOrderly s → chosen s.table ≡ Some t → IsOrderly (after_effect s t p n effect).state
by_effect s t p n Ran e h c = h
by_effect s t p n Up e h c = region_orderly s.mode s.table t (region_count (state_of s.table t) + 1) h c
by_effect s t p n Down e h c = region_orderly s.mode s.table t _ h c
by_effect s t p n (Trigger other) e h c = by_release other s e h
by_effect s t p n (CopyStart sync) e h c = copy_orderly s.mode s.table t sync h c
by_effect s t p n (Copied true sync) e h c = copy_orderly s.mode s.table t false h c
by_effect s t p n (Copied false sync) e h c = h
by_effect s t p n (Left true) e h c = after_end t p s e h c
by_effect s t p n (Left false) e h c = h
by_effect s t p n Minor e h c = h
by_effect s t p n (Major code) e h c = stop_orderly Faulted s.table

by_advance : (s : State) (t : ℕ) (p : Progress) (scan : Scan) (a : Advanced) → s.mode ≡ Run → IsOrderly s → chosen s.table ≡ Some t → IsOrderly (after_advance s t p scan a).state
by_advance s t p scan a e h c =
    let p' : Progress = record { ended = p.ended; scan = Some (record scan { position = a.position }); flags = a.flags } in
    by_effect (record (with_progress t p' s) { image = a.image }) t p' scan.program a.effect e h c

by_scan : (s : State) (t : ℕ) (p : Progress) (o : Option Scan) → s.mode ≡ Run → IsOrderly s → chosen s.table ≡ Some t → IsOrderly (scan_step s t p o).state
by_scan s t p None e h c = h
by_scan s t p (Some scan) e h c = by_advance s t p scan (advance scan.rungs scan.position s.image s.tick scan.first p.flags) e h c

by_task : (s : State) (o : Option ℕ) → IsOrderly s → chosen s.table ≡ o → IsOrderly (task_step s o).state
by_task s None h c = h
by_task s (Some t) h c = by_scan s t (progress_of s t) (progress_of s t).scan (chosen_in_run s.mode s.table t h c) h c

-- ---- the tick

-- in Run, and orderly
abbrev Running : State → Type 0
Running s = (s.mode ≡ Run) × IsOrderly s

answer_keeps_mode : (a : Release) (t : ℕ) (s : State) → (after_answer a t s).state.mode ≡ s.mode
answer_keeps_mode Released t s = refl
answer_keeps_mode Overlap t s = refl
answer_keeps_mode Inhibited t s = refl

released_running : (t : ℕ) (s : State) → Running s → Running (release_task t s).state
released_running t s h = (answer_keeps_mode (release_answer s.table t) t s ∙ h.0, by_release t s h.0 h.1)

due_running : (ts : List ℕ) (x : Answered TickReport) → Running x.state → Running (fold release_if_due x ts).state
due_running [] x h = h
due_running (t ∷ ts) x h =
    due_running ts (release_if_due x t) (cond_both (due t x.state.tick x.state.table) _ x (λ (y : Answered TickReport). Running y.state) (λ q. released_running t x.state h) (λ q. h))

by_watchdogs : (s : State) (o : Option ℕ) → Running s → IsOrderly (after_watchdogs s o).state
by_watchdogs s (Some t) h = stop_orderly Faulted s.table
by_watchdogs s None h = (due_running (range_with_len 0 (length s.table.defs)) (record { state = s; answer = quiet }) h).1

-- s in the given mode
abbrev in_mode : Mode → State → State
in_mode m s = record s { mode = m }

by_tick : (m : Mode) (s : State) → Orderly m s.table → IsOrderly (tick (in_mode m s)).state
by_tick Run s h =
    let s' = record (in_mode Run s) { tick = s.tick + 1; table = rotate s.table } in
    by_watchdogs s' (expired s'.tick s'.table) (refl, rotate_orderly s.table h)
by_tick Program s h = h
by_tick Faulted s h = h

-- ---- actions

by_held : (b : Bool) (s : State) (a : Answered Outcome) → IsOrderly s → IsOrderly a.state → IsOrderly (held_or b s a).state
by_held true s a h k = h
by_held false s a h k = k

by_trigger : (s : State) (m : Mode) (o : Option ℕ) → s.mode ≡ m → IsOrderly s → IsOrderly (triggers s m o).state
by_trigger s Run (Some t) e h = by_release t s e h
by_trigger s Program (Some t) e h = h
by_trigger s Faulted (Some t) e h = h
by_trigger s Run None e h = h
by_trigger s Program None e h = h
by_trigger s Faulted None e h = h

by_put : (s : State) (v : ℤ) (k : Result Slot ConnFault) → IsOrderly s → IsOrderly (put_in s v k).state
by_put s v (Err e) h = h
by_put s v (Ok k) h = by_trigger (record s { image = write_signed w32 s.image k.byte (forced s.forces k.io v) }) s.mode k.trigger refl h

by_take : (s : State) (k : Result Slot ConnFault) → IsOrderly s → IsOrderly (take_out s k).state
by_take s (Err e) h = h
by_take s (Ok k) h = h

by_force : (s : State) (x : Result Forces ForceFault) → IsOrderly s → IsOrderly (force_replied s x).state
by_force s (Err e) h = h
by_force s (Ok x) h = h

by_edit : (s : State) (x : Result Edited EditFault) → IsOrderly s → IsOrderly (edit_replied s x).state
by_edit s (Err e) h = h
by_edit s (Ok x) h = h

by_run : (m : Mode) (s : State) → Orderly m s.table → IsOrderly (mode_run_from m (in_mode m s)).state
by_run Run s h = h
by_run Program s h = start_orderly s.table s.tick
by_run Faulted s h = h

by_program : (m : Mode) (s : State) → Orderly m s.table → IsOrderly (mode_program_from m (in_mode m s)).state
by_program Run s h = stop_orderly Program s.table
by_program Program s h = h
by_program Faulted s h = h

-- outside Run an orderly table is so in any mode
faulted_down : (s : Table) → Orderly Faulted s → Orderly Program s
faulted_down s h = down_orderly Program s (λ t u g. (let f : Faulted ≡ Run → ⊥ = λ p. cc in f (h.in_run t u g)))

by_clear : (m : Mode) (s : State) → Orderly m s.table → IsOrderly (clear_from m (in_mode m s)).state
by_clear Run s h = h
by_clear Program s h = h
by_clear Faulted s h = faulted_down s.table h

by_act : (s : State) (lane : ℕ) (a : Action) → IsOrderly s → IsOrderly (act s lane a).state
by_act s lane (WordIn conn word v) h = by_held (held s.table) s _ h (by_put s v (slot s.plan.conns conn word false) h)
by_act s lane (WordOut conn word) h = by_held (held s.table) s _ h (by_take s (slot s.plan.conns conn word true) h)
by_act s lane (Accept a) h = by_edit s (accept s.plan.tags s.plan.names s.books lane a) h
by_act s lane (Test n) h = by_edit s (on_accepted test s.books lane n) h
by_act s lane (Untest n) h = by_edit s (on_accepted untest s.books lane n) h
by_act s lane (Assemble n) h = by_edit s (on_accepted assemble s.books lane n) h
by_act s lane (Cancel n) h = by_edit s (on_accepted cancel s.books lane n) h
by_act s lane (ForceInstall conn word mask v) h = by_force s (install_on s.forces (io_word s.plan.conns conn word) mask v) h
by_act s lane ForceEnable h = by_force s (enable s.forces) h
by_act s lane ForceDisable h = h
by_act s lane ForceRemove h = by_force s (remove_all s.forces) h
by_act s lane ModeRun h = by_held (held s.table) s _ h (by_run s.mode s h)
by_act s lane ModeProgram h = by_held (held s.table) s _ h (by_program s.mode s h)
by_act s lane Clear h = by_held (held s.table) s _ h (by_clear s.mode s h)

-- ---- runs

by_event : (s : State) (e : Event) → IsOrderly s → IsOrderly (step s e).state
by_event s Cpu h = by_task s (chosen s.table) h refl
by_event s Tick h = by_tick s.mode s h
by_event s (Act lane a) h = by_act s lane a h

from_orderly : (s : State) (es : List Event) → IsOrderly s → IsOrderly (run_on s es)
from_orderly s [] h = h
from_orderly s (e ∷ es) h = from_orderly (step s e).state es (by_event s e h)

pub run_orderly : (project : Project) (journal : List Event) → IsOrderly (run project journal)
run_orderly project journal = from_orderly (start project) journal (down_orderly Program (start project).table (none_up project.tasks))
