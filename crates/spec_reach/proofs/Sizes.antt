-- Each event keeps the sizes.
use Rattle.std.proofs.Common.{◌≡◌, ℕ, ◌+◌, Bool, true, false, List, [], ◌∷◌, length, map, Option, Some, None, refl, sym, ◌∙◌, ap, length-set}
use Rattle.std.proofs.lemmas.Bool.{cond_both}
use Rattle.std.proofs.lemmas.List.{length-map}
use Rattle.std.proofs.lemmas.List.{length-replicate}
use Rattle.std.specs.Prelude.{ℤ, if◌then◌else◌, Result, Ok, Err, fold, nat_lt, nat_le, nat_eq, not, slice_set}
use Rattle.std.specs.Int.{w32}
use Rattle.std.specs.List.{range_with_len}
use Rattle.lgx_num.specs.Image.{write_signed}
use Rattle.spec_machine.specs.declared.answer.Outcome.{Outcome}
use Rattle.spec_machine.specs.declared.answer.TickReport.{TickReport}
use Rattle.spec_machine.specs.declared.reply.Mode.{Mode}
use Rattle.spec_machine.specs.declared.reply.Mode.TheVariants.{Program, Run, Faulted}
use Rattle.spec_tables.specs.declared.conn.ConnFault.{ConnFault}
use Rattle.spec_tables.specs.declared.conn.Slot.{Slot}
use Rattle.spec_tables.specs.declared.force.ForceFault.{ForceFault}
use Rattle.spec_tables.specs.declared.force.ForceFault.TheVariants.{F1, F2, F3}
use Rattle.spec_base.specs.declared.limits.TheConstants.{MAX_FORCES}
use Rattle.spec_base.proofs.Binds.{ok_inj}
use Rattle.spec_tables.specs.declared.task.TaskDef.{TaskDef}
use Rattle.spec_tables.specs.declared.task.Release.{Release}
use Rattle.spec_tables.specs.declared.task.Release.TheVariants.{Released, Overlap, Inhibited}
use Rattle.spec_tables.specs.Connections.{slot, io_word, words_of}
use Rattle.spec_tables.specs.Forces.{Forces, no_forces, forced, installed, enable, disable, remove_all}
use Rattle.spec_tables.specs.Tasks.{TaskState, Table, state_of, region_count, chosen, release_answer, release, release_some, put_up_if, put_up, if_continuous, continuous_task, held, stop, finish, rotate, unless_open, to_back, is_open, expired, due}
use Rattle.spec_tables.specs.Tasks as tasks
use Rattle.spec_scan.specs.declared.bound.Effect.{Effect}
use Rattle.spec_scan.specs.declared.bound.Effect.TheVariants.{Ran, Up, Down, Trigger, CopyStart, Copied, Left, Minor, Major}
use Rattle.spec_scan.specs.Scan.{Advanced, advance}
use Rattle.spec_machine.specs.declared.reply.EditFault.{EditFault}
use Rattle.spec_machine.specs.declared.event.Event.{Event}
use Rattle.spec_machine.specs.declared.event.Event.TheVariants.{Cpu, Tick, Act}
use Rattle.spec_machine.specs.declared.event.Action.{Action}
use Rattle.spec_machine.specs.declared.event.Action.TheVariants.{WordIn, WordOut, Accept, Test, Untest, Assemble, Cancel, ForceInstall, ForceEnable, ForceDisable, ForceRemove, ModeRun, ModeProgram, Clear}
use Rattle.spec_machine.specs.Edits.{Book, book_of, Edited, accept, on_accepted, test, untest, assemble, cancel}
use Rattle.spec_machine.specs.Project.{Project, ProgramText}
use Rattle.spec_machine.specs.State.{State, Scan, Progress, no_progress, dropped, progress_of, programs_of, start, Answered}
use Rattle.spec_machine.specs.Releases.{after_answer, release_task}
use Rattle.spec_machine.specs.ProcessorStep.{with_progress, scan_ended, after_effect, after_advance, scan_step, task_step}
use Rattle.spec_machine.specs.Ticks.{quiet, release_if_due, after_watchdogs, tick}
use Rattle.spec_machine.specs.Actions.{held_or, triggers, put_in, take_out, install_on, force_replied, edit_replied, mode_run_from, mode_program_from, clear_from, act}
use Rattle.spec_machine.specs.Machine.{step, run_from as run_on}
use Rattle.spec_reach.specs.Sizes.{KeepsSizes, RunsKeepSizes}
use Rattle.spec_reach.proofs.EditNames.{names_of, accept_names, accepted_names, test_name, untest_name, assemble_name, cancel_name}

-- ---- the table keeps its tasks

pub record KeepsTasks (s x : Table) : Type 0 where
  pub defs : x.defs ≡ s.defs
  pub states : length x.states ≡ length s.states

same : (s : Table) → KeepsTasks s s
same s = record { defs = refl; states = refl }

after : (s x y : Table) → KeepsTasks s x → KeepsTasks x y → KeepsTasks s y
after s x y h k = record { defs = k.defs ∙ h.defs; states = k.states ∙ h.states }

with_state : (s : Table) (t n : ℕ) (x : Option TaskState) → KeepsTasks s (record s { states = slice_set s.states t x; next = n })
with_state s t n x = record { defs = refl; states = length-set s.states t x }

pub put_up_if_keeps : (a : Release) (t now : ℕ) (s : Table) → KeepsTasks s (put_up_if a t now s)
put_up_if_keeps Released t now s = with_state s t (s.next + 1) _
put_up_if_keeps Overlap t now s = same s
put_up_if_keeps Inhibited t now s = same s

release_some_keeps : (o : Option ℕ) (now : ℕ) (s : Table) → KeepsTasks s (release_some o now s)
release_some_keeps None now s = same s
release_some_keeps (Some t) now s = put_up_if_keeps (release_answer s t) t now s

stop_keeps : (s : Table) (n : ℕ) → KeepsTasks s (record (stop s) { run_since = n })
stop_keeps s n = record { defs = refl; states = length-map s.states (λ (u : Option TaskState). let x : Option TaskState = None in x) }

start_keeps : (now : ℕ) (s : Table) → KeepsTasks s (tasks.start now s)
start_keeps now s = after s (record (stop s) { run_since = now }) _ (stop_keeps s now) (release_some_keeps (continuous_task s) now (record (stop s) { run_since = now }))

finish_keeps : (t now : ℕ) (s : Table) → KeepsTasks s (finish t now s)
finish_keeps t now s = after s (record s { states = slice_set s.states t None }) _ (with_state s t s.next None) (release_some_keeps (if_continuous s t) now (record s { states = slice_set s.states t None }))

pub unless_open_keeps : (o : Option ℕ) (s : Table) → KeepsTasks s (unless_open o s)
unless_open_keeps None s = same s
unless_open_keeps (Some t) s = cond_both (is_open (state_of s t)) s (to_back t s) (KeepsTasks s) (λ q. same s) (λ q. with_state s t (s.next + 1) _)

-- ---- one part changed

module _ (p : Project) where
  abbrev Sized : State → Type 0
  Sized s = KeepsSizes p s

  on_table : (s : State) (x : Table) → KeepsTasks s.table x → Sized s → Sized (record s { table = x })
  on_table s x k h = record { same_plan = h.same_plan; same_tasks = k.defs ∙ h.same_tasks; states = k.states ∙ h.states; progresses = h.progresses; first_scans = h.first_scans; names = h.names; words = h.words }

  on_progress : (s : State) (x : List Progress) → length x ≡ length s.progress → Sized s → Sized (record s { progress = x })
  on_progress s x k h = record { same_plan = h.same_plan; same_tasks = h.same_tasks; states = h.states; progresses = k ∙ h.progresses; first_scans = h.first_scans; names = h.names; words = h.words }

  on_firsts : (s : State) (x : List Bool) → length x ≡ length s.firsts → Sized s → Sized (record s { firsts = x })
  on_firsts s x k h = record { same_plan = h.same_plan; same_tasks = h.same_tasks; states = h.states; progresses = h.progresses; first_scans = k ∙ h.first_scans; names = h.names; words = h.words }

  on_books : (s : State) (x : List Book) → names_of x ≡ names_of s.books → Sized s → Sized (record s { books = x })
  on_books s x k h = record { same_plan = h.same_plan; same_tasks = h.same_tasks; states = h.states; progresses = h.progresses; first_scans = h.first_scans; names = k ∙ h.names; words = h.words }

  on_forces : (s : State) (x : Forces) → length x.words ≡ length s.forces.words → Sized s → Sized (record s { forces = x })
  on_forces s x k h = record { same_plan = h.same_plan; same_tasks = h.same_tasks; states = h.states; progresses = h.progresses; first_scans = h.first_scans; names = h.names; words = k ∙ h.words }

  on_task : (s : State) (t : ℕ) (q : Progress) → Sized s → Sized (with_progress t q s)
  on_task s t q h = on_progress s (slice_set s.progress t q) (length-set s.progress t q) h

  all_down : (s : State) → Sized s → Sized (record s { table = stop s.table; progress = map dropped s.progress })
  all_down s h =
      on_progress (record s { table = stop s.table }) (map dropped s.progress) (length-map s.progress dropped) (on_table s (stop s.table) (stop_keeps s.table s.table.run_since) h)

  -- ---- releases

  by_answer : (a : Release) (t : ℕ) (s : State) → Sized s → Sized (after_answer a t s).state
  by_answer Released t s h =
      on_task (record s { table = put_up t s.tick s.table }) t (dropped (progress_of s t)) (on_table s (put_up t s.tick s.table) (put_up_if_keeps Released t s.tick s.table) h)
  by_answer Overlap t s h = h
  by_answer Inhibited t s h = h

  by_release : (t : ℕ) (s : State) → Sized s → Sized (release_task t s).state
  by_release t s h = by_answer (release_answer s.table t) t s h

  -- ---- the processor step

  after_end : (t : ℕ) (q : Progress) (s : State) → Sized s → Sized (scan_ended t q s)
  after_end t q s h =
      cond_both (nat_lt (q.ended + 1) (length (programs_of s t))) _ _ Sized
      (λ b. on_task (record s { table = tasks.region_clear t s.table }) t _ (on_table s (tasks.region_clear t s.table) (with_state s.table t s.table.next _) h))
      (λ b. on_task (record s { table = finish t s.tick s.table }) t _ (on_table s (finish t s.tick s.table) (finish_keeps t s.tick s.table) h))

  by_effect : (s : State) (t : ℕ) (q : Progress) (n : ℕ) (effect : Effect) → Sized s → Sized (after_effect s t q n effect).state
  by_effect s t q n Ran h = h
  by_effect s t q n Up h = on_table s _ (with_state s.table t s.table.next _) h
  by_effect s t q n Down h = on_table s _ (with_state s.table t s.table.next _) h
  by_effect s t q n (Trigger other) h = by_release other s h
  by_effect s t q n (CopyStart sync) h = on_table s _ (with_state s.table t s.table.next _) h
  by_effect s t q n (Copied true sync) h = on_table s _ (with_state s.table t s.table.next _) h
  by_effect s t q n (Copied false sync) h = h
  by_effect s t q n (Left true) h = after_end t q s h
  by_effect s t q n (Left false) h = h
  by_effect s t q n Minor h = h
  by_effect s t q n (Major code) h = all_down s h

  by_advance : (s : State) (t : ℕ) (q : Progress) (scan : Scan) (a : Advanced) → Sized s → Sized (after_advance s t q scan a).state
  by_advance s t q scan a h =
      let q' : Progress = record { ended = q.ended; scan = Some (record scan { position = a.position }); flags = a.flags } in
      by_effect (record (with_progress t q' s) { image = a.image }) t q' scan.program a.effect (on_task s t q' h)

  by_scan : (s : State) (t : ℕ) (q : Progress) (o : Option Scan) → Sized s → Sized (scan_step s t q o).state
  by_scan s t q None h = on_firsts (with_progress t _ s) _ (length-set s.firsts _ false) (on_task s t _ h)
  by_scan s t q (Some scan) h = by_advance s t q scan (advance scan.rungs scan.position s.image s.tick scan.first q.flags) h

  by_task : (s : State) (o : Option ℕ) → Sized s → Sized (task_step s o).state
  by_task s None h = h
  by_task s (Some t) h = by_scan s t (progress_of s t) (progress_of s t).scan h

  -- ---- the tick

  due_keep : (ts : List ℕ) (x : Answered TickReport) → Sized x.state → Sized (fold release_if_due x ts).state
  due_keep [] x h = h
  due_keep (t ∷ ts) x h =
      due_keep ts (release_if_due x t) (cond_both (due t x.state.tick x.state.table) _ x (λ (y : Answered TickReport). Sized y.state) (λ b. by_release t x.state h) (λ b. h))

  by_watchdogs : (s : State) (o : Option ℕ) → Sized s → Sized (after_watchdogs s o).state
  by_watchdogs s (Some t) h = all_down s h
  by_watchdogs s None h = due_keep (range_with_len 0 (length s.table.defs)) (record { state = s; answer = quiet }) h

  abbrev in_mode : Mode → State → State
  in_mode m s = record s { mode = m }

  by_tick : (m : Mode) (s : State) → Sized s → Sized (tick (in_mode m s)).state
  by_tick Run s h =
      let s' = record (in_mode Run s) { tick = s.tick + 1; table = rotate s.table } in
      by_watchdogs s' (expired s'.tick s'.table) (on_table s (rotate s.table) (unless_open_keeps (chosen s.table) s.table) h)
  by_tick Program s h = h
  by_tick Faulted s h = h

  -- ---- actions

  by_held : (b : Bool) (s : State) (a : Answered Outcome) → Sized s → Sized a.state → Sized (held_or b s a).state
  by_held true s a h k = h
  by_held false s a h k = k

  by_trigger : (s : State) (m : Mode) (o : Option ℕ) → Sized s → Sized (triggers s m o).state
  by_trigger s Run (Some t) h = by_release t s h
  by_trigger s Program (Some t) h = h
  by_trigger s Faulted (Some t) h = h
  by_trigger s Run None h = h
  by_trigger s Program None h = h
  by_trigger s Faulted None h = h

  by_put : (s : State) (v : ℤ) (k : Result Slot ConnFault) → Sized s → Sized (put_in s v k).state
  by_put s v (Err e) h = h
  by_put s v (Ok k) h = by_trigger (record s { image = write_signed w32 s.image k.byte (forced s.forces k.io v) }) s.mode k.trigger h

  by_take : (s : State) (k : Result Slot ConnFault) → Sized s → Sized (take_out s k).state
  by_take s (Err e) h = h
  by_take s (Ok k) h = h

  by_force : (s : State) (x : Result Forces ForceFault) → ((f : Forces) → x ≡ Ok f → length f.words ≡ length s.forces.words) → Sized s → Sized (force_replied s x).state
  by_force s (Err e) k h = h
  by_force s (Ok f) k h = on_forces s f (k f refl) h

  by_edit : (s : State) (x : Result Edited EditFault) → ((e : Edited) → x ≡ Ok e → names_of e.books ≡ names_of s.books) → Sized s → Sized (edit_replied s x).state
  by_edit s (Err f) k h = h
  by_edit s (Ok e) k h = on_books s e.books (k e refl) h

  by_run : (m : Mode) (s : State) → Sized s → Sized (mode_run_from m s).state
  by_run Program s h =
      on_firsts (record s { table = tasks.start s.tick s.table; progress = map (λ (q : Progress). no_progress) s.progress }) (map (λ (b : Bool). true) s.firsts) (length-map s.firsts (λ (b : Bool). true))
      (on_progress (record s { table = tasks.start s.tick s.table }) (map (λ (q : Progress). no_progress) s.progress) (length-map s.progress (λ (q : Progress). no_progress)) (on_table s (tasks.start s.tick s.table) (start_keeps s.tick s.table) h))
  by_run Run s h = h
  by_run Faulted s h = h

  by_program : (m : Mode) (s : State) → Sized s → Sized (mode_program_from m s).state
  by_program Run s h = all_down s h
  by_program Program s h = h
  by_program Faulted s h = h

  by_clear : (m : Mode) (s : State) → Sized s → Sized (clear_from m s).state
  by_clear Run s h = h
  by_clear Program s h = h
  by_clear Faulted s h = h

  -- ---- forces

  install_keeps : (s : Forces) (o : Option ℕ) (mask value : ℤ) (f : Forces) → install_on s o mask value ≡ Ok f → length f.words ≡ length s.words
  install_keeps s None mask value f e = absurd (cc e)
  install_keeps s (Some w) mask value f e = go (nat_lt w (length s.words)) (nat_le MAX_FORCES (installed (slice_set s.words w None))) e
    where
      put : Forces
      put = record s { words = slice_set s.words w (Some (record { mask = mask; value = value })) }

      go : (there full : Bool) → (if not there then Err F1 else (if full then Err F2 else Ok put)) ≡ Ok f → length f.words ≡ length s.words
      go false full e = absurd (cc e)
      go true true e = absurd (cc e)
      go true false e = sym (ap (λ (x : Forces). length x.words) (ok_inj put f e)) ∙ length-set s.words w _

  enable_keeps : (s f : Forces) → enable s ≡ Ok f → length f.words ≡ length s.words
  enable_keeps s f e = go (nat_eq (installed s.words) 0) e
    where
      go : (none : Bool) → (if none then Err F3 else Ok (record s { enabled = true })) ≡ Ok f → length f.words ≡ length s.words
      go true e = absurd (cc e)
      go false e = sym (ap (λ (x : Forces). length x.words) (ok_inj (record s { enabled = true }) f e))

  remove_keeps : (s f : Forces) → remove_all s ≡ Ok f → length f.words ≡ length s.words
  remove_keeps s f e = go (nat_eq (installed s.words) 0) e
    where
      go : (none : Bool) → (if none then Err F3 else Ok (no_forces (length s.words))) ≡ Ok f → length f.words ≡ length s.words
      go true e = absurd (cc e)
      go false e = sym (ap (λ (x : Forces). length x.words) (ok_inj (no_forces (length s.words)) f e)) ∙ length-replicate (length s.words) None

  by_act : (s : State) (lane : ℕ) (a : Action) → Sized s → Sized (act s lane a).state
  by_act s lane (WordIn conn word v) h = by_held (held s.table) s _ h (by_put s v (slot s.plan.conns conn word false) h)
  by_act s lane (WordOut conn word) h = by_held (held s.table) s _ h (by_take s (slot s.plan.conns conn word true) h)
  by_act s lane (Accept a) h = by_edit s (accept s.plan.tags s.plan.names s.books lane a) (accept_names s.plan.tags s.plan.names s.books lane a) h
  by_act s lane (Test n) h = by_edit s (on_accepted test s.books lane n) (λ e k. accepted_names test s.books lane n e test_name k) h
  by_act s lane (Untest n) h = by_edit s (on_accepted untest s.books lane n) (λ e k. accepted_names untest s.books lane n e untest_name k) h
  by_act s lane (Assemble n) h = by_edit s (on_accepted assemble s.books lane n) (λ e k. accepted_names assemble s.books lane n e assemble_name k) h
  by_act s lane (Cancel n) h = by_edit s (on_accepted cancel s.books lane n) (λ e k. accepted_names cancel s.books lane n e cancel_name k) h
  by_act s lane (ForceInstall conn word mask v) h = by_force s (install_on s.forces (io_word s.plan.conns conn word) mask v) (install_keeps s.forces (io_word s.plan.conns conn word) mask v) h
  by_act s lane ForceEnable h = by_force s (enable s.forces) (enable_keeps s.forces) h
  by_act s lane ForceDisable h = on_forces s (disable s.forces) refl h
  by_act s lane ForceRemove h = by_force s (remove_all s.forces) (remove_keeps s.forces) h
  by_act s lane ModeRun h = by_held (held s.table) s _ h (by_run s.mode s h)
  by_act s lane ModeProgram h = by_held (held s.table) s _ h (by_program s.mode s h)
  by_act s lane Clear h = by_held (held s.table) s _ h (by_clear s.mode s h)

  -- ---- runs

  pub event_keeps_sizes : (s : State) (e : Event) → Sized s → Sized (step s e).state
  event_keeps_sizes s Cpu h = by_task s (chosen s.table) h
  event_keeps_sizes s Tick h = by_tick s.mode s h
  event_keeps_sizes s (Act lane a) h = by_act s lane a h

  from_keeps : (s : State) (es : List Event) → Sized s → Sized (run_on s es)
  from_keeps s [] h = h
  from_keeps s (e ∷ es) h = from_keeps (step s e).state es (event_keeps_sizes s e h)

  book_names : (qs : List ProgramText) → names_of (map book_of qs) ≡ map (λ q. q.name) qs
  book_names [] = refl
  book_names (q ∷ qs) = ap (λ ns. q.name ∷ ns) (book_names qs)

  pub start_sizes : Sized (start p)
  start_sizes = record {
    same_plan = refl;
    same_tasks = refl;
    states = length-map p.tasks (λ (d : TaskDef). let x : Option TaskState = None in x);
    progresses = length-map p.tasks (λ (d : TaskDef). no_progress);
    first_scans = length-map p.programs (λ (q : ProgramText). false);
    names = book_names p.programs;
    words = length-replicate (words_of p.conns) None;
  }

pub runs_keep_sizes : RunsKeepSizes
runs_keep_sizes p journal = from_keeps p (start p) journal (start_sizes p)
