-- What is seen of an event of a run has a line, and numbers that its line keeps and the table has.
use Rattle.std.proofs.Common.{◌≡◌, ℕ, zero, suc, ◌+◌, ◌<◌, ◌≤◌, ◌^◌, Bool, true, false, ◌||◌, ℤ, nat_lt, nat_le, List, [], ◌∷◌, length, Option, Some, None, Result, Ok, Err, refl, sym, ◌∙◌, ap, subst, arith}
use Rattle.std.specs.Prelude.{fold, option_and_then}
use Rattle.std.specs.List.{range_with_len, zip}
use Rattle.std.proofs.lemmas.Bool.{and_from, and_parts, cond_both, leb-true, lt-ltb}
use Rattle.std.proofs.lemmas.Nat.{pow_pos}
use Rattle.std.proofs.Math.Nat.{pow-le-pow_right}
use Rattle.std.proofs.Math.Pow.{pow-lt}
use Rattle.std.specs.Int.{w32}
use Rattle.lgx_num.specs.Image.{write_signed}
use Rattle.lgx_num.specs.Name.{same}
use Rattle.spec_base.specs.declared.limits.TheConstants.{MAX_EVENTS, MAX_TASKS, OWN_LANE}
use Rattle.spec_tables.specs.declared.conn.Slot.{Slot}
use Rattle.spec_tables.specs.declared.conn.ConnFault.{ConnFault}
use Rattle.spec_tables.specs.declared.force.ForceFault.{ForceFault}
use Rattle.spec_tables.specs.declared.task.TaskDef.{TaskDef}
use Rattle.spec_tables.specs.declared.task.Release.{Release}
use Rattle.spec_tables.specs.declared.task.Release.TheVariants.{Released, Overlap, Inhibited}
use Rattle.spec_tables.specs.Connections.{slot, io_word}
use Rattle.spec_tables.specs.Forces.{Forces, forced, enable, disable, remove_all}
use Rattle.spec_tables.specs.Tasks.{TaskState, chosen, continuous_task, expired, has_expired, held, if_released, is_continuous, no_task, release_answer, released_at_run, rotate, state_of, stop, tasks, due}
use Rattle.spec_tables.proofs.StateLists.{found}
use Rattle.spec_scan.specs.declared.bound.Effect.{Effect}
use Rattle.spec_scan.specs.declared.bound.Effect.TheVariants.{Ran, Up, Down, Trigger, CopyStart, Copied, Left, Minor, Major}
use Rattle.spec_scan.specs.KnownTasks.{TriggersKnownTask}
use Rattle.spec_scan.specs.Scan.{advance}
use Rattle.spec_machine.specs.declared.answer.Outcome.{Outcome}
use Rattle.spec_machine.specs.declared.answer.TickReport.{TickReport}
use Rattle.spec_machine.specs.declared.event.Action.{Action}
use Rattle.spec_machine.specs.declared.event.Action.TheVariants.{WordIn, WordOut, Accept, Test, Untest, Assemble, Cancel, ForceInstall, ForceEnable, ForceDisable, ForceRemove, ModeRun, ModeProgram, Clear}
use Rattle.spec_machine.specs.declared.event.Event.{Event}
use Rattle.spec_machine.specs.declared.event.Event.TheVariants as event
use Rattle.spec_machine.specs.declared.reply.EditFault.{EditFault}
use Rattle.spec_machine.specs.declared.reply.Mode.{Mode}
use Rattle.spec_machine.specs.declared.reply.Mode.TheVariants.{Program, Run, Faulted}
use Rattle.spec_machine.specs.declared.reply.Reply.{Reply}
use Rattle.spec_machine.specs.declared.reply.Reply.TheVariants as reply
use Rattle.spec_machine.specs.Actions.{act, after_trigger, edit_replied, force_replied, held_or, install_on, mode_run_from, mode_program_from, clear_from, put_in, take_out, triggers}
use Rattle.spec_machine.specs.Commands.{AcceptCommand}
use Rattle.spec_machine.specs.Edits.{Book, Edited, accept, on_accepted, test, untest, assemble, cancel, book_at, scope_of, selected_number}
use Rattle.spec_machine.specs.Machine.{after_step, step, OfAction}
use Rattle.spec_machine.specs.ProcessorStep.{after_effect, next_program, scan_step, task_step, with_progress}
use Rattle.spec_machine.specs.Project.{Project, ProgramText}
use Rattle.spec_machine.specs.Releases.{AfterRelease, mask_of, release_task, released_mask}
use Rattle.spec_machine.specs.State.{State, Scan, Plan, Progress, progress_of, Answered}
use Rattle.spec_machine.specs.Ticks.{after_release, after_watchdogs, in_mode, noted, quiet, release_if_due, tick}
use Rattle.spec_machine.specs.ValidProject.{IsValidProject}
use Rattle.spec_machine.specs.declared.limits.TheConstants.{MAX_PROGRAMS}
use Rattle.spec_machine.proofs.TickFaults.{masks_of_tasks}
use Rattle.spec_reach.specs.Reachable.{IsAfter, IsReachable}
use Rattle.spec_reach.proofs.EditNames.{accepted_parts, is_accepted, is_changed}
use Rattle.spec_reach.proofs.Reachable.{all_is_reachable}
use Rattle.spec_reach.proofs.Reached.{IsReached, known_at}
use Rattle.spec_reach.proofs.Sizes.{unless_open_keeps}
use Rattle.spec_reach.proofs.Views.{chosen_known}
use Rattle.spec_reach.proofs.Words.{slots_are_in_image}
use Rattle.spec_schedule.specs.declared.trace.StepFault.{StepFault}
use Rattle.spec_schedule.specs.declared.trace.StepFault.TheVariants as fault
use Rattle.spec_schedule.specs.declared.trace.Table.{Table}
use Rattle.spec_schedule.specs.declared.trace.TraceEvent.{TraceEvent}
use Rattle.spec_schedule.specs.declared.trace.TraceEvent.TheVariants as seen_as
use Rattle.spec_schedule.specs.declared.trace.TraceAnswer.TheVariants.{Done, No}
use Rattle.spec_schedule.specs.declared.trace.TraceMark.{TraceMark}
use Rattle.spec_schedule.specs.declared.trace.TraceMark.TheVariants as mark
use Rattle.spec_schedule.specs.TraceView.{audit_tasks, table_of, seen, verb_of, named, program_number, answer_of, fault_of}
use Rattle.spec_legal.proofs.Mirrors.{table_length}
use Rattle.lgx_journal.specs.Written.{has_lane}
use Rattle.lgx_audit.specs.Kept.{is_u32, is_kept, is_kept_answer}
use Rattle.lgx_audit.specs.TraceTable.{if_named, is_in_table, is_mask, is_programs, is_tasks, triggered}
use Rattle.lgx_audit.specs.TraceText.{has_form, is_answer, is_edit, is_none}
use Rattle.lgx_audit.proofs.BaseNumbers.{selected_below}
use Rattle.lgx_audit.proofs.LinesBack.{may_stand}
use Rattle.lgx_audit.proofs.NextTriggers.{next_triggers}

-- ---- lists

zip_short : {A B : Type 0} (xs : List A) (ys : List B) → length (zip xs ys) ≤ length xs
zip_short [] ys = omega arith
zip_short (x ∷ xs) [] = omega arith
zip_short (x ∷ xs) (y ∷ ys) = (let r = zip_short xs ys in omega arith)

none_is_some : {A : Type 0} {x : A} → None ≡ Some x → ⊥
none_is_some e = cc

module _ (p : Project) (valid : IsValidProject p) where
  abbrev table : Table
  table = table_of p

  abbrev many : ℕ
  many = length p.tasks

  abbrev MayStand : TraceEvent → Type 0
  MayStand e = may_stand table e ≡ true

  -- ---- numbers

  few_tasks : many ≤ 32
  few_tasks = leb-true many MAX_TASKS (and_parts (nat_lt 0 many) (nat_le many MAX_TASKS) valid.limits.tasks).1

  -- it fits, and the table has it
  abbrev IsTaskHere : ℕ → Type 0
  IsTaskHere t = (is_u32 t ≡ true) × (is_tasks table t ≡ true)

  task_here : (t : ℕ) → t < many → IsTaskHere t
  task_here t l = (lt-ltb t (2 ^ 32) (let f = few_tasks in omega arith), lt-ltb t (length (audit_tasks p.tasks p.schedule)) (let e = table_length p valid in omega arith))

  abbrev IsNamedHere : Option ℕ → Type 0
  IsNamedHere o = (if_named is_u32 o ≡ true) × (if_named (is_tasks table) o ≡ true)

  named_here : (o : Option ℕ) → ((t : ℕ) → o ≡ Some t → t < many) → IsNamedHere o
  named_here None h = (refl, refl)
  named_here (Some t) h = task_here t (h t refl)

  abbrev IsProgramHere : ℕ → Type 0
  IsProgramHere g = (is_u32 g ≡ true) × (is_programs table g ≡ true)

  program_here : (g : ℕ) → g < length p.programs → IsProgramHere g
  program_here g l =
      let most = leb-true (length p.programs) MAX_PROGRAMS (and_parts (nat_lt 0 (length p.programs)) (nat_le (length p.programs) MAX_PROGRAMS) valid.limits.programs).1 in
      (lt-ltb g (2 ^ 32) (omega arith), lt-ltb g (length p.programs) l)

  abbrev IsMaskHere : ℕ → Type 0
  IsMaskHere m = (is_u32 m ≡ true) × (is_mask table m ≡ true)

  mask_here : (m : ℕ) → m < 2 ^ many → IsMaskHere m
  mask_here m l =
      let most = pow-le-pow_right {n = 2} (omega arith) {i = many} {j = 32} few_tasks in
      (lt-ltb m (2 ^ 32) (omega arith), lt-ltb m (2 ^ length (audit_tasks p.tasks p.schedule)) (subst (λ n. m < 2 ^ n) (sym (table_length p valid)) l))

  small : (v n : ℕ) → v ≤ n → n ≤ MAX_EVENTS → is_u32 v ≡ true
  small v n l k = lt-ltb v (2 ^ 32) (omega arith)

  -- ---- events

  stands : (e : TraceEvent) → has_form e ≡ true → is_kept e ≡ true → is_in_table table e ≡ true → MayStand e
  stands e f k h = and_from (has_form e) _ f (and_from (is_kept e) _ k h)

  began_stands : (t g v : ℕ) → IsTaskHere t → IsProgramHere g → is_u32 v ≡ true → MayStand (seen_as.Began t g v)
  began_stands t g v a b k = stands (seen_as.Began t g v) refl (and_from _ _ a.0 (and_from _ _ b.0 k)) (and_from _ _ a.1 b.1)

  step_stands : (t g : ℕ) (m : TraceMark) (f : StepFault) → IsTaskHere t → IsProgramHere g → IsNamedHere (triggered m) → MayStand (seen_as.Step t g m f)
  step_stands t g m f a b c = stands (seen_as.Step t g m f) refl (and_from _ _ a.0 (and_from _ _ b.0 c.0)) (and_from _ _ a.1 (and_from _ _ b.1 c.1))

  left_stands : (t g : ℕ) (b : Bool) → IsTaskHere t → IsProgramHere g → MayStand (seen_as.Left t g b)
  left_stands t g b x y = stands (seen_as.Left t g b) refl (and_from _ _ x.0 y.0) (and_from _ _ x.1 y.1)

  tick_stands : (r o : ℕ) (w : Option ℕ) → IsMaskHere r → IsMaskHere o → IsNamedHere w → MayStand (seen_as.Tick r o w)
  tick_stands r o w a b c = stands (seen_as.Tick r o w) refl (and_from _ _ a.0 (and_from _ _ b.0 c.0)) (and_from _ _ a.1 (and_from _ _ b.1 c.1))

  -- ---- the answer to an action

  record IsAnswer (a : Action) (o : Outcome) : Type 0 where
    form : is_answer (verb_of a) (answer_of o.reply) ≡ true
    number : is_kept_answer (answer_of o.reply) ≡ true
    mask : o.released < 2 ^ many

  edits_name : (a : Action) → (is_edit (verb_of a) || is_none (program_number p.programs (named a))) ≡ true
  edits_name (WordIn conn word v) = refl
  edits_name (WordOut conn word) = refl
  edits_name (Accept c) = refl
  edits_name (Test n) = refl
  edits_name (Untest n) = refl
  edits_name (Assemble n) = refl
  edits_name (Cancel n) = refl
  edits_name (ForceInstall conn word mask v) = refl
  edits_name ForceEnable = refl
  edits_name ForceDisable = refl
  edits_name ForceRemove = refl
  edits_name ModeRun = refl
  edits_name ModeProgram = refl
  edits_name Clear = refl

  abbrev IsNumbered : Option ℕ → Type 0
  IsNumbered o = (if_named is_u32 o ≡ true) × (if_named (is_programs table) o ≡ true)

  numbered : (o : Option (List ℕ)) → IsNumbered (program_number p.programs o)
  numbered None = (refl, refl)
  numbered (Some name) = go (program_number p.programs (Some name)) refl
    where
      no_text : ProgramText
      no_text = record { name = []; routines = []; main = 0 }

      go : (o : Option ℕ) → program_number p.programs (Some name) ≡ o → IsNumbered o
      go None e = (refl, refl)
      go (Some g) e = program_here g (found (λ (q : ProgramText). same q.name name) no_text p.programs g e).0

  act_stands : (lane : ℕ) (a : Action) (o : Outcome) → nat_le lane OWN_LANE ≡ true → IsAnswer a o → MayStand (seen p (OfAction lane a o))
  act_stands lane a o l h =
      let g = numbered (named a) in
      let m = mask_here o.released h.mask in
      let few = leb-true lane OWN_LANE l in
      stands (seen p (OfAction lane a o))
      (and_from _ _ (edits_name a) h.form)
      (and_from _ _ (lt-ltb lane (2 ^ 32) (omega arith)) (and_from _ _ g.0 (and_from _ _ h.number m.0)))
      (and_from _ _ l (and_from _ _ g.1 m.1))

  -- a reply alone
  abbrev alone : Reply → Outcome
  alone r = record { reply = r; fault = None; released = 0 }

  replies : (a : Action) (r : Reply) → is_answer (verb_of a) (answer_of r) ≡ true → is_kept_answer (answer_of r) ≡ true → IsAnswer a (alone r)
  replies a r f k = record { form = f; number = k; mask = pow_pos many }

  mask_small : (t : ℕ) (answer : Release) → t < many → released_mask t answer < 2 ^ many
  mask_small t Released l = pow-lt l
  mask_small t Overlap l = pow_pos many
  mask_small t Inhibited l = pow_pos many

  or_held : (a : Action) (b : Bool) (s : State) (x : Answered Outcome) → IsAnswer a (alone reply.Held) → IsAnswer a x.answer → IsAnswer a (held_or b s x).answer
  or_held a true s x h k = h
  or_held a false s x h k = k

  -- ---- at a state that so many events lead to

  module _ (n : ℕ) (s : State) (after : IsAfter p n s) (few : n < MAX_EVENTS) where
    reached : IsReached p s
    reached = record { journal = after.journal; is = after.is }

    known : IsReachable p n s
    known = all_is_reachable p n s valid after

    -- ---- a processor step

    module _ (t : ℕ) (here : IsTaskHere t) where
      by_effect : (x : State) (q : Progress) (g : ℕ) → IsProgramHere g → (e : Effect) → TriggersKnownTask many e → MayStand (seen p (after_step (after_effect x t q g e)).answer)
      by_effect x q g l Ran h = step_stands t g mark.Plain fault.Plain here l (refl, refl)
      by_effect x q g l Up h = step_stands t g mark.Up fault.Plain here l (refl, refl)
      by_effect x q g l Down h = step_stands t g mark.Down fault.Plain here l (refl, refl)
      by_effect x q g l (Trigger other) h = step_stands t g (mark.Trigger other) (fault_of (release_task other x).fault) here l (task_here other h)
      by_effect x q g l (CopyStart true) h = step_stands t g mark.Sync fault.Plain here l (refl, refl)
      by_effect x q g l (CopyStart false) h = step_stands t g mark.Copy fault.Plain here l (refl, refl)
      by_effect x q g l (Copied true true) h = step_stands t g mark.SyncEnd fault.Plain here l (refl, refl)
      by_effect x q g l (Copied true false) h = step_stands t g mark.CopyEnd fault.Plain here l (refl, refl)
      by_effect x q g l (Copied false sync) h = step_stands t g mark.Plain fault.Plain here l (refl, refl)
      by_effect x q g l (Left true) h = left_stands t g true here l
      by_effect x q g l (Left false) h = left_stands t g false here l
      by_effect x q g l Minor h = step_stands t g mark.Plain fault.Minor here l (refl, refl)
      by_effect x q g l (Major code) h = step_stands t g mark.Plain fault.Major here l (refl, refl)

      -- its next program, or the one that it is in
      module _ (u : TaskState) (up : state_of s.table t ≡ Some u) where
        next_here : IsProgramHere (next_program s t (progress_of s t))
        next_here = let at = known.programs t in program_here _ (at.known (progress_of s t).ended (at.to_come u up))

        by_scan : (o : Option Scan) → (progress_of s t).scan ≡ o → MayStand (seen p (after_step (scan_step s t (progress_of s t) o)).answer)
        by_scan None is =
            let g = next_program s t (progress_of s t) in
            let below = subst (λ (x : State). selected_number (book_at x.books g) ≤ (book_at x.books g).newest) after.is (selected_below p after.journal g) in
            let newest = known.bounds.newest g in
            began_stands t g (selected_number (book_at s.books g)) here next_here (small _ n (omega arith) (omega arith))
        by_scan (Some scan) is =
            let a = advance scan.rungs scan.position s.image s.tick scan.first (progress_of s t).flags in
            let q : Progress = record { ended = (progress_of s t).ended; scan = Some (record scan { position = a.position }); flags = a.flags } in
            by_effect (record (with_progress t q s) { image = a.image }) q scan.program
            (subst IsProgramHere (sym ((known.programs t).scanned scan is)) next_here) a.effect (next_triggers p valid s t scan reached is)

    by_task : (o : Option ℕ) → chosen s.table ≡ o → MayStand (seen p (after_step (task_step s o)).answer)
    by_task None is = refl
    by_task (Some t) is =
        let c = chosen_known p s t (known_at p s reached) is in
        by_scan t (task_here t (let l = c.in_states in let e = known.sizes.states in omega arith)) c.state c.up (progress_of s t).scan refl

    -- ---- a tick

    noted_keeps : (r : TickReport) (t : ℕ) (answer : Release) → (noted t r answer).watchdog ≡ r.watchdog
    noted_keeps r t Released = refl
    noted_keeps r t Overlap = refl
    noted_keeps r t Inhibited = refl

    due_keeps : (x : Answered TickReport) (t : ℕ) → (release_if_due x t).answer.watchdog ≡ x.answer.watchdog
    due_keeps x t =
        cond_both (due t x.state.tick x.state.table) (after_release t x.answer (release_task t x.state)) x
        (λ (y : Answered TickReport). y.answer.watchdog ≡ x.answer.watchdog)
        (λ q. noted_keeps x.answer t (release_task t x.state).answer) (λ q. refl)

    all_keep : (x : Answered TickReport) (k count : ℕ) → (fold release_if_due x (range_with_len k count)).answer.watchdog ≡ x.answer.watchdog
    all_keep x k zero = refl
    all_keep x k (suc count) = all_keep (release_if_due x k) (k + 1) count ∙ due_keeps x k

    by_watchdog : (y : State) (o : Option ℕ) → length y.table.defs ≡ many → expired y.tick y.table ≡ o → (t : ℕ) → (after_watchdogs y o).answer.watchdog ≡ Some t → t < many
    by_watchdog y None size is t e = absurd (none_is_some (sym (all_keep (record { state = y; answer = quiet }) 0 (length y.table.defs)) ∙ e))
    by_watchdog y (Some u) size is t e =
        let l = (found (λ (x : TaskDef × Option TaskState). has_expired y.tick x.0 x.1) (no_task, None) (tasks y.table) u is).0 in
        let short = zip_short y.table.defs y.table.states in
        subst (λ k. k < many) (let same : u ≡ t = cc in same) (omega arith)

    by_mode : (m : Mode) (x : State) → length x.table.defs ≡ many → (t : ℕ) → (in_mode m x).answer.watchdog ≡ Some t → t < many
    by_mode Program x size t e = absurd (none_is_some e)
    by_mode Faulted x size t e = absurd (none_is_some e)
    by_mode Run x size t e =
        let y = record x { table = rotate x.table } in
        by_watchdog y (expired y.tick y.table) (ap (λ (ds : List TaskDef). length ds) (unless_open_keeps (chosen x.table) x.table).defs ∙ size) refl t e

    tasks_here : length s.table.defs ≡ many
    tasks_here = ap (λ (ds : List TaskDef). length ds) known.sizes.same_tasks

    by_tick : MayStand (seen p (step s event.Tick).answer)
    by_tick =
        let masks = masks_of_tasks s in
        let r = (tick s).answer in
        tick_stands r.released r.overlapped r.watchdog
        (mask_here r.released (subst (λ i. r.released < 2 ^ i) tasks_here masks.0))
        (mask_here r.overlapped (subst (λ i. r.overlapped < 2 ^ i) tasks_here masks.1))
        (named_here r.watchdog (by_mode s.mode (record s { tick = s.tick + 1 }) tasks_here))

    -- ---- an action

    -- I/O words
    module _ (conn : List ℕ) (word : ℕ) where
      module _ (v : ℤ) where
        abbrev word_in : Action
        word_in = WordIn conn word v

        released : (t : ℕ) → t < many → (r : AfterRelease) → IsAnswer word_in (after_trigger t r).answer
        released t l r = record { form = refl; number = refl; mask = mask_small t r.answer l }

        by_trigger : (x : State) (m : Mode) (o : Option ℕ) → ((t : ℕ) → o ≡ Some t → t < many) → IsAnswer word_in (triggers x m o).answer
        by_trigger x Run (Some t) h = released t (h t refl) (release_task t x)
        by_trigger x Program (Some t) h = replies word_in reply.Done refl refl
        by_trigger x Faulted (Some t) h = replies word_in reply.Done refl refl
        by_trigger x Run None h = replies word_in reply.Done refl refl
        by_trigger x Program None h = replies word_in reply.Done refl refl
        by_trigger x Faulted None h = replies word_in reply.Done refl refl

        by_put : (x : Result Slot ConnFault) → slot s.plan.conns conn word false ≡ x → IsAnswer word_in (put_in s v x).answer
        by_put (Err f) is = replies word_in (reply.Conn f) refl refl
        by_put (Ok k) is =
            let there = slots_are_in_image p conn word false k valid (ap (λ (plan : Plan). slot plan.conns conn word false) (sym known.sizes.same_plan) ∙ is) in
            by_trigger (record s { image = write_signed w32 s.image k.byte (forced s.forces k.io v) }) s.mode k.trigger there.trigger

      by_take : (x : Result Slot ConnFault) → IsAnswer (WordOut conn word) (take_out s x).answer
      by_take (Err f) = replies (WordOut conn word) (reply.Conn f) refl refl
      by_take (Ok k) = replies (WordOut conn word) (reply.Word _) refl refl

    -- an edit: an accept is answered by its number
    by_accept : (lane : ℕ) (c : AcceptCommand) (x : Result Edited EditFault) → accept s.plan.tags s.plan.names s.books lane c ≡ x → IsAnswer (Accept c) (edit_replied s x).answer
    by_accept lane c (Err f) is = replies (Accept c) (reply.Edit f) refl refl
    by_accept lane c (Ok e) is =
        let x = is_accepted s.plan.tags s.plan.names s.books lane c e is in
        let parts = accepted_parts (scope_of s.plan.tags s.plan.names x.number (book_at s.books x.number)) lane x.routine c.edits (book_at s.books x.number) x.book x.accepted in
        let more = ap (λ (b : Book). b.newest) parts.2 in
        let newest = known.bounds.newest x.number in
        subst (λ (y : Edited). IsAnswer (Accept c) (edit_replied s (Ok y)).answer) x.result
        (replies (Accept c) (reply.Version x.book.newest) refl (small x.book.newest (n + 1) (omega arith) (omega arith)))

    abbrev IsPlain : Action → Type 0
    IsPlain a = (is_answer (verb_of a) Done ≡ true) × (is_answer (verb_of a) No ≡ true)

    by_change : (lane : ℕ) (name : List ℕ) (a : Action) (change : Book → Result Book EditFault) → IsPlain a → (x : Result Edited EditFault) → on_accepted change s.books lane name ≡ x → IsAnswer a (edit_replied s x).answer
    by_change lane name a change plain (Err f) is = replies a (reply.Edit f) plain.1 refl
    by_change lane name a change plain (Ok e) is =
        let x = is_changed change s.books lane name e is in
        subst (λ (y : Edited). IsAnswer a (edit_replied s (Ok y)).answer) x.result (replies a reply.Done plain.0 refl)

    by_force : (a : Action) → IsPlain a → (x : Result Forces ForceFault) → IsAnswer a (force_replied s x).answer
    by_force a plain (Err f) = replies a (reply.Force f) plain.1 refl
    by_force a plain (Ok f) = replies a reply.Done plain.0 refl

    -- modes
    run_mask : mask_of (released_at_run s.table) < 2 ^ many
    run_mask = go (continuous_task s.table) refl
      where
        go : (o : Option ℕ) → continuous_task s.table ≡ o → mask_of (option_and_then (λ t. if_released (release_answer (stop s.table) t) t) o) < 2 ^ many
        go None is = pow_pos many
        go (Some t) is =
            let l = (found (λ (d : TaskDef). is_continuous d.kind) no_task s.table.defs t is).0 in
            mask_small t (release_answer (stop s.table) t) (let e = tasks_here in omega arith)

    by_run : (m : Mode) → IsAnswer ModeRun (mode_run_from m s).answer
    by_run Program = record { form = refl; number = refl; mask = run_mask }
    by_run Run = replies ModeRun _ refl refl
    by_run Faulted = replies ModeRun _ refl refl

    by_program : (m : Mode) → IsAnswer ModeProgram (mode_program_from m s).answer
    by_program Program = replies ModeProgram _ refl refl
    by_program Run = replies ModeProgram _ refl refl
    by_program Faulted = replies ModeProgram _ refl refl

    by_clear : (m : Mode) → IsAnswer Clear (clear_from m s).answer
    by_clear Program = replies Clear _ refl refl
    by_clear Run = replies Clear _ refl refl
    by_clear Faulted = replies Clear _ refl refl

    unless_held : (a : Action) (x : Answered Outcome) → is_answer (verb_of a) No ≡ true → IsAnswer a x.answer → IsAnswer a (held_or (held s.table) s x).answer
    unless_held a x refused h = or_held a (held s.table) s x (replies a reply.Held refused refl) h

    by_act : (lane : ℕ) (a : Action) → IsAnswer a (act s lane a).answer
    by_act lane (WordIn conn word v) = unless_held (WordIn conn word v) _ refl (by_put conn word v (slot s.plan.conns conn word false) refl)
    by_act lane (WordOut conn word) = unless_held (WordOut conn word) _ refl (by_take conn word (slot s.plan.conns conn word true))
    by_act lane (Accept c) = by_accept lane c (accept s.plan.tags s.plan.names s.books lane c) refl
    by_act lane (Test name) = by_change lane name (Test name) test (refl, refl) (on_accepted test s.books lane name) refl
    by_act lane (Untest name) = by_change lane name (Untest name) untest (refl, refl) (on_accepted untest s.books lane name) refl
    by_act lane (Assemble name) = by_change lane name (Assemble name) assemble (refl, refl) (on_accepted assemble s.books lane name) refl
    by_act lane (Cancel name) = by_change lane name (Cancel name) cancel (refl, refl) (on_accepted cancel s.books lane name) refl
    by_act lane (ForceInstall conn word mask v) = by_force (ForceInstall conn word mask v) (refl, refl) (install_on s.forces (io_word s.plan.conns conn word) mask v)
    by_act lane ForceEnable = by_force ForceEnable (refl, refl) (enable s.forces)
    by_act lane ForceDisable = by_force ForceDisable (refl, refl) (Ok (disable s.forces))
    by_act lane ForceRemove = by_force ForceRemove (refl, refl) (remove_all s.forces)
    by_act lane ModeRun = unless_held ModeRun _ refl (by_run s.mode)
    by_act lane ModeProgram = unless_held ModeProgram _ refl (by_program s.mode)
    by_act lane Clear = unless_held Clear _ refl (by_clear s.mode)

    -- ---- an event

    pub event_stands : (e : Event) → has_lane e ≡ true → MayStand (seen p (step s e).answer)
    event_stands event.Cpu lane = by_task (chosen s.table) refl
    event_stands event.Tick lane = by_tick
    event_stands (event.Act lane a) l = act_stands lane a (act s lane a).answer l (by_act lane a)
