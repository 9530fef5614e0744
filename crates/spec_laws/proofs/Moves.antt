-- How an event moves the clock of Run.
use Rattle.std.proofs.Common.{◌≡◌, ℕ, ◌+◌, Bool, true, false, cond, List, ◌∷◌, Option, Some, None, ◌⊎◌, inl, inr, refl, sym, ◌∙◌, ap, subst, arith, Ok, Err}
use Rattle.std.proofs.lemmas.Bool.{cond_both}
use Rattle.std.specs.Prelude.{ℤ, Result, option_map, nat_lt, length, slice_set}
use Rattle.std.specs.Int.{w32}
use Rattle.lgx_num.specs.Image.{write_signed}
use Rattle.spec_tables.specs.declared.conn.ConnFault.{ConnFault}
use Rattle.spec_tables.specs.declared.conn.Slot.{Slot}
use Rattle.spec_tables.specs.declared.force.ForceFault.{ForceFault}
use Rattle.spec_tables.specs.declared.task.Release.{Release}
use Rattle.spec_tables.specs.declared.task.Release.TheVariants.{Released, Overlap, Inhibited}
use Rattle.spec_tables.specs.Connections.{slot, io_word}
use Rattle.spec_tables.specs.Forces.{Forces, forced, enable, remove_all}
use Rattle.spec_tables.specs.Tasks.{Table, state_of, is_open, chosen, release_answer, release_some, put_up_if, if_continuous, continuous_task, held, stop, to_back, unless_open, rotate, expired}
use Rattle.spec_scan.specs.declared.bound.Effect.{Effect}
use Rattle.spec_scan.specs.declared.bound.Effect.TheVariants.{Ran, Up, Down, Trigger, CopyStart, Copied, Left, Minor, Major}
use Rattle.spec_scan.specs.Scan.{Advanced, advance}
use Rattle.spec_machine.specs.declared.answer.Outcome.{Outcome}
use Rattle.spec_machine.specs.declared.answer.TickReport.{TickReport}
use Rattle.spec_machine.specs.declared.answer.Moment.{Moment}
use Rattle.spec_machine.specs.declared.answer.What.{What}
use Rattle.spec_machine.specs.declared.answer.What.TheVariants as what
use Rattle.spec_machine.specs.declared.event.Event.{Event}
use Rattle.spec_machine.specs.declared.event.Event.TheVariants.{Cpu, Tick, Act}
use Rattle.spec_machine.specs.declared.event.Action.{Action}
use Rattle.spec_machine.specs.declared.event.Action.TheVariants.{WordIn, WordOut, Accept, Test, Untest, Assemble, Cancel, ForceInstall, ForceEnable, ForceDisable, ForceRemove, ModeRun, ModeProgram, Clear}
use Rattle.spec_machine.specs.declared.reply.EditFault.{EditFault}
use Rattle.spec_machine.specs.declared.reply.Mode.{Mode}
use Rattle.spec_machine.specs.declared.reply.Mode.TheVariants.{Program, Run, Faulted}
use Rattle.spec_machine.specs.Actions.{held_or, triggers, after_trigger, put_in, take_out, install_on, force_replied, edit_replied, mode_run_from, mode_program_from, clear_from, act}
use Rattle.spec_machine.specs.Edits.{Edited, accept, on_accepted, test, untest, assemble, cancel}
use Rattle.spec_machine.specs.Machine.{after_step, after_tick, after_action, step}
use Rattle.spec_machine.specs.ProcessorStep.{plainly, triggered, with_progress, scan_ended, after_effect, after_advance, scan_step, task_step, processor_step}
use Rattle.spec_machine.specs.Project.{Project}
use Rattle.spec_machine.specs.Releases.{after_answer}
use Rattle.spec_machine.specs.State.{State, Scan, Progress, progress_of, programs_of, Answered}
use Rattle.spec_machine.specs.Ticks.{release_due, after_watchdogs, in_mode}
use Rattle.spec_schedule.specs.declared.trace.TraceAnswer.{TraceAnswer}
use Rattle.spec_schedule.specs.declared.trace.TraceEvent.{TraceEvent}
use Rattle.spec_schedule.specs.declared.trace.TraceEvent.TheVariants as event
use Rattle.spec_schedule.specs.Counting.{stops, CountedEvent}
use Rattle.spec_schedule.specs.TraceView.{step_seen, verb_of, named, program_number, answer_of, seen}
use Rattle.spec_reach.proofs.Changes.{tick_after}
use Rattle.spec_reach.proofs.Grows.{event_moves}
use Rattle.spec_laws.specs.CountedBack.{ticks_in, comes_to_run, ticks_in_run}
use Rattle.spec_laws.proofs.Masks.{walked}

-- ---- the clock

-- the ticks since the change to Run are those that were counted
abbrev pub IsClock : State → Option ℕ → Type 0
IsClock s None = s.mode ≡ Run → ⊥
IsClock s (Some n) = (s.mode ≡ Run) × (s.table.run_since + n ≡ s.tick)

-- the same mode, or neither is Run
abbrev pub IsAsBefore : State → State → Type 0
IsAsBefore s x = (x.mode ≡ s.mode) ⊎ ((s.mode ≡ Run → ⊥) × (x.mode ≡ Run → ⊥))

-- an event leaves the clock as it is, stops it, or starts it
pub data Move (s x : State) (e : TraceEvent) : Type 0 where
  GoesOn : comes_to_run e ≡ false → stops e ≡ false → IsAsBefore s x → x.table.run_since ≡ s.table.run_since → Move s x e
  Stops : comes_to_run e ≡ false → stops e ≡ true → (x.mode ≡ Run → ⊥) → Move s x e
  Runs : comes_to_run e ≡ true → x.mode ≡ Run → x.table.run_since ≡ x.tick → Move s x e

module _ (s x : State) (y : CountedEvent) (past : List CountedEvent) where
  abbrev on : ℕ → ℕ
  on n = ticks_in y.event + n

  goes_on : IsAsBefore s x → x.table.run_since ≡ s.table.run_since → x.tick ≡ ticks_in y.event + s.tick → (o : Option ℕ) → IsClock s o → IsClock x (option_map on o)
  goes_on (inl m) r k None h = λ e. h (sym m ∙ e)
  goes_on (inr m) r k None h = m.1
  goes_on (inl m) r k (Some n) h = (m ∙ h.0, (let e = h.1 in omega arith))
  goes_on (inr m) r k (Some n) h = absurd (m.0 h.0)

  pub clock_next : Move s x y.event → x.tick ≡ ticks_in y.event + s.tick → IsClock s (ticks_in_run past) → IsClock x (ticks_in_run (y ∷ past))
  clock_next (GoesOn c t m r) k h =
      subst (IsClock x) (sym (ap (λ b. cond b (Some 0) (cond (stops y.event) None (option_map on (ticks_in_run past)))) c ∙ ap (λ b. cond b None (option_map on (ticks_in_run past))) t))
      (goes_on m r k (ticks_in_run past) h)
  clock_next (Stops c t m) k h =
      subst (IsClock x) (sym (ap (λ b. cond b (Some 0) (cond (stops y.event) None (option_map on (ticks_in_run past)))) c ∙ ap (λ b. cond b None (option_map on (ticks_in_run past))) t)) m
  clock_next (Runs c m r) k h =
      subst (IsClock x) (sym (ap (λ b. cond b (Some 0) (cond (stops y.event) None (option_map on (ticks_in_run past)))) c)) (m, (let e = r in omega arith))

-- ---- the table keeps the tick of the change to Run

put_if_since : (a : Release) (t now : ℕ) (s : Table) → (put_up_if a t now s).run_since ≡ s.run_since
put_if_since Released t now s = refl
put_if_since Overlap t now s = refl
put_if_since Inhibited t now s = refl

some_since : (o : Option ℕ) (now : ℕ) (s : Table) → (release_some o now s).run_since ≡ s.run_since
some_since None now s = refl
some_since (Some t) now s = put_if_since (release_answer s t) t now s

pub rotate_since : (o : Option ℕ) (s : Table) → (unless_open o s).run_since ≡ s.run_since
rotate_since None s = refl
rotate_since (Some t) s = cond_both (is_open (state_of s t)) s (to_back t s) (λ (x : Table). x.run_since ≡ s.run_since) (λ b. refl) (λ b. refl)

-- ---- the processor step

module _ (p : Project) where
  abbrev StepMoves : State → Answered Moment → Type 0
  StepMoves s x = Move s x.state (seen p (after_step x).answer)

  by_answer : (s : State) (t n other : ℕ) (a : Release) → StepMoves s (triggered (what.Ran t n) other (after_answer a other s))
  by_answer s t n other Released = GoesOn refl refl (inl refl) refl
  by_answer s t n other Overlap = GoesOn refl refl (inl refl) refl
  by_answer s t n other Inhibited = GoesOn refl refl (inl refl) refl

  by_end : (s : State) (t n : ℕ) (q : Progress) → StepMoves s (plainly (scan_ended t q s) (what.Left t n true))
  by_end s t n q =
      cond_both (nat_lt (q.ended + 1) (length (programs_of s t))) _ _ (λ (x : State). StepMoves s (plainly x (what.Left t n true)))
      (λ b. GoesOn refl refl (inl refl) refl) (λ b. GoesOn refl refl (inl refl) (some_since (if_continuous s.table t) s.tick (record s.table { states = slice_set s.table.states t None })))

  by_effect : (s : State) (t : ℕ) (q : Progress) (n : ℕ) (effect : Effect) → StepMoves s (after_effect s t q n effect)
  by_effect s t q n Ran = GoesOn refl refl (inl refl) refl
  by_effect s t q n Up = GoesOn refl refl (inl refl) refl
  by_effect s t q n Down = GoesOn refl refl (inl refl) refl
  by_effect s t q n (Trigger other) = by_answer s t n other (release_answer s.table other)
  by_effect s t q n (CopyStart true) = GoesOn refl refl (inl refl) refl
  by_effect s t q n (CopyStart false) = GoesOn refl refl (inl refl) refl
  by_effect s t q n (Copied true true) = GoesOn refl refl (inl refl) refl
  by_effect s t q n (Copied true false) = GoesOn refl refl (inl refl) refl
  by_effect s t q n (Copied false sync) = GoesOn refl refl (inl refl) refl
  by_effect s t q n (Left true) = by_end s t n q
  by_effect s t q n (Left false) = GoesOn refl refl (inl refl) refl
  by_effect s t q n Minor = GoesOn refl refl (inl refl) refl
  by_effect s t q n (Major code) = Stops refl refl (λ e. cc e)

  -- a step of a state that differs in nothing that the clock sees
  as_of : (s y x : State) (e : TraceEvent) → y.mode ≡ s.mode → y.table.run_since ≡ s.table.run_since → Move y x e → Move s x e
  as_of s y x e m r (GoesOn c t (inl k) f) = GoesOn c t (inl (k ∙ m)) (f ∙ r)
  as_of s y x e m r (GoesOn c t (inr k) f) = GoesOn c t (inr ((λ h. k.0 (m ∙ h)), k.1)) (f ∙ r)
  as_of s y x e m r (Stops c t k) = Stops c t k
  as_of s y x e m r (Runs c k f) = Runs c k f

  by_advance : (s : State) (t : ℕ) (q : Progress) (scan : Scan) (a : Advanced) → StepMoves s (after_advance s t q scan a)
  by_advance s t q scan a =
      let q' : Progress = record { ended = q.ended; scan = Some (record scan { position = a.position }); flags = a.flags } in
      let y : State = record (with_progress t q' s) { image = a.image } in
      as_of s y (after_advance s t q scan a).state (seen p (after_step (after_advance s t q scan a)).answer) refl refl (by_effect y t q' scan.program a.effect)

  by_scan : (s : State) (t : ℕ) (q : Progress) (o : Option Scan) → StepMoves s (scan_step s t q o)
  by_scan s t q None = GoesOn refl refl (inl refl) refl
  by_scan s t q (Some scan) = by_advance s t q scan (advance scan.rungs scan.position s.image s.tick scan.first q.flags)

  by_task : (s : State) (o : Option ℕ) → StepMoves s (task_step s o)
  by_task s None = GoesOn refl refl (inl refl) refl
  by_task s (Some t) = by_scan s t (progress_of s t) (progress_of s t).scan

  -- ---- the tick, once the due tasks are released

  abbrev StepTick : State → Answered TickReport → Type 0
  StepTick s x = Move s x.state (seen p (after_tick x).answer)

  by_watchdogs : (s y : State) → y.mode ≡ s.mode → y.table.run_since ≡ s.table.run_since → (o : Option ℕ) → StepTick s (after_watchdogs y o)
  by_watchdogs s y m r (Some t) = Stops refl refl (λ e. cc e)
  by_watchdogs s y m r None =
      let w = walked y in
      GoesOn refl (ap (λ o. stops (event.Tick (release_due y).answer.released (release_due y).answer.overlapped o)) w.watchdog) (inl (w.mode ∙ m)) (w.since ∙ r)

  by_mode : (m : Mode) (s : State) → s.mode ≡ m → StepTick s (in_mode m (record s { tick = s.tick + 1 }))
  by_mode Run s e =
      let y = record s { tick = s.tick + 1; table = rotate s.table } in
      by_watchdogs s y refl (rotate_since (chosen s.table) s.table) (expired y.tick y.table)
  by_mode Program s e = GoesOn refl refl (inl refl) refl
  by_mode Faulted s e = GoesOn refl refl (inl refl) refl

  -- ---- actions

  module _ (lane : ℕ) (a : Action) (s : State) where
    abbrev ActMoves : Answered Outcome → Type 0
    ActMoves x = Move s x.state (seen p (after_action lane a x).answer)

    -- an action that is no change of mode
    abbrev IsPlain : Type 0
    IsPlain = (answer : TraceAnswer) (mask : ℕ) → (comes_to_run (event.Act lane (verb_of a) (program_number p.programs (named a)) answer mask) ≡ false) × (stops (event.Act lane (verb_of a) (program_number p.programs (named a)) answer mask) ≡ false)

    plainly_on : IsPlain → (x : Answered Outcome) → x.state.mode ≡ s.mode → x.state.table.run_since ≡ s.table.run_since → ActMoves x
    plainly_on plain x m r =
        let h = plain (answer_of x.answer.reply) x.answer.released in GoesOn h.0 h.1 (inl m) r

    by_held : IsPlain → (b : Bool) (x : Answered Outcome) → ActMoves x → ActMoves (held_or b s x)
    by_held plain true x h = plainly_on plain (held_or true s x) refl refl
    by_held plain false x h = h

    after_trigger_on : IsPlain → (y : State) (t : ℕ) (answer : Release) → y.mode ≡ s.mode → y.table.run_since ≡ s.table.run_since → ActMoves (after_trigger t (after_answer answer t y))
    after_trigger_on plain y t Released m r = plainly_on plain (after_trigger t (after_answer Released t y)) m r
    after_trigger_on plain y t Overlap m r = plainly_on plain (after_trigger t (after_answer Overlap t y)) m r
    after_trigger_on plain y t Inhibited m r = plainly_on plain (after_trigger t (after_answer Inhibited t y)) m r

    by_trigger : IsPlain → (y : State) (m : Mode) (o : Option ℕ) → y.mode ≡ s.mode → y.table.run_since ≡ s.table.run_since → ActMoves (triggers y m o)
    by_trigger plain y Run (Some t) e r = after_trigger_on plain y t (release_answer y.table t) e r
    by_trigger plain y Program (Some t) e r = plainly_on plain (triggers y Program (Some t)) e r
    by_trigger plain y Faulted (Some t) e r = plainly_on plain (triggers y Faulted (Some t)) e r
    by_trigger plain y Run None e r = plainly_on plain (triggers y Run None) e r
    by_trigger plain y Program None e r = plainly_on plain (triggers y Program None) e r
    by_trigger plain y Faulted None e r = plainly_on plain (triggers y Faulted None) e r

    by_put : IsPlain → (v : ℤ) (k : Result Slot ConnFault) → ActMoves (put_in s v k)
    by_put plain v (Err f) = plainly_on plain (put_in s v (Err f)) refl refl
    by_put plain v (Ok k) = by_trigger plain (record s { image = write_signed w32 s.image k.byte (forced s.forces k.io v) }) s.mode k.trigger refl refl

    by_take : IsPlain → (k : Result Slot ConnFault) → ActMoves (take_out s k)
    by_take plain (Err f) = plainly_on plain (take_out s (Err f)) refl refl
    by_take plain (Ok k) = plainly_on plain (take_out s (Ok k)) refl refl

    by_force : IsPlain → (x : Result Forces ForceFault) → ActMoves (force_replied s x)
    by_force plain (Err f) = plainly_on plain (force_replied s (Err f)) refl refl
    by_force plain (Ok x) = plainly_on plain (force_replied s (Ok x)) refl refl

    by_edit : IsPlain → (x : Result Edited EditFault) → ActMoves (edit_replied s x)
    by_edit plain (Err f) = plainly_on plain (edit_replied s (Err f)) refl refl
    by_edit plain (Ok x) = plainly_on plain (edit_replied s (Ok x)) refl refl

  held_run : (lane : ℕ) (s : State) (b : Bool) (x : Answered Outcome) → ActMoves lane ModeRun s x → ActMoves lane ModeRun s (held_or b s x)
  held_run lane s true x h = GoesOn refl refl (inl refl) refl
  held_run lane s false x h = h

  by_run : (lane : ℕ) (m : Mode) (s : State) → ActMoves lane ModeRun s (mode_run_from m s)
  by_run lane Program s = Runs refl refl (some_since (continuous_task s.table) s.tick (record (stop s.table) { run_since = s.tick }))
  by_run lane Run s = GoesOn refl refl (inl refl) refl
  by_run lane Faulted s = GoesOn refl refl (inl refl) refl

  held_program : (lane : ℕ) (s : State) (b : Bool) (x : Answered Outcome) → ActMoves lane ModeProgram s x → ActMoves lane ModeProgram s (held_or b s x)
  held_program lane s true x h = GoesOn refl refl (inl refl) refl
  held_program lane s false x h = h

  by_program : (lane : ℕ) (m : Mode) (s : State) → ActMoves lane ModeProgram s (mode_program_from m s)
  by_program lane Program s = GoesOn refl refl (inl refl) refl
  by_program lane Run s = Stops refl refl (λ e. cc e)
  by_program lane Faulted s = GoesOn refl refl (inl refl) refl

  by_clear : (lane : ℕ) (m : Mode) (s : State) → s.mode ≡ m → ActMoves lane Clear s (clear_from m s)
  by_clear lane Program s e = GoesOn refl refl (inl refl) refl
  by_clear lane Run s e = GoesOn refl refl (inl refl) refl
  by_clear lane Faulted s e =
      let f : Faulted ≡ Run → ⊥ = λ x. cc in GoesOn refl refl (inr ((λ h. f (sym e ∙ h)), (λ h. cc h))) refl

  by_act : (s : State) (lane : ℕ) (a : Action) → ActMoves lane a s (act s lane a)
  by_act s lane (WordIn conn word v) = by_held lane (WordIn conn word v) s (λ r m. (refl, refl)) (held s.table) (put_in s v (slot s.plan.conns conn word false)) (by_put lane (WordIn conn word v) s (λ r m. (refl, refl)) v (slot s.plan.conns conn word false))
  by_act s lane (WordOut conn word) = by_held lane (WordOut conn word) s (λ r m. (refl, refl)) (held s.table) (take_out s (slot s.plan.conns conn word true)) (by_take lane (WordOut conn word) s (λ r m. (refl, refl)) (slot s.plan.conns conn word true))
  by_act s lane (Accept c) = by_edit lane (Accept c) s (λ r m. (refl, refl)) (accept s.plan.tags s.plan.names s.books lane c)
  by_act s lane (Test n) = by_edit lane (Test n) s (λ r m. (refl, refl)) (on_accepted test s.books lane n)
  by_act s lane (Untest n) = by_edit lane (Untest n) s (λ r m. (refl, refl)) (on_accepted untest s.books lane n)
  by_act s lane (Assemble n) = by_edit lane (Assemble n) s (λ r m. (refl, refl)) (on_accepted assemble s.books lane n)
  by_act s lane (Cancel n) = by_edit lane (Cancel n) s (λ r m. (refl, refl)) (on_accepted cancel s.books lane n)
  by_act s lane (ForceInstall conn word mask v) = by_force lane (ForceInstall conn word mask v) s (λ r m. (refl, refl)) (install_on s.forces (io_word s.plan.conns conn word) mask v)
  by_act s lane ForceEnable = by_force lane ForceEnable s (λ r m. (refl, refl)) (enable s.forces)
  by_act s lane ForceDisable = plainly_on lane ForceDisable s (λ r m. (refl, refl)) (act s lane ForceDisable) refl refl
  by_act s lane ForceRemove = by_force lane ForceRemove s (λ r m. (refl, refl)) (remove_all s.forces)
  by_act s lane ModeRun = held_run lane s (held s.table) (mode_run_from s.mode s) (by_run lane s.mode s)
  by_act s lane ModeProgram = held_program lane s (held s.table) (mode_program_from s.mode s) (by_program lane s.mode s)
  by_act s lane Clear =
      by_held lane Clear s (λ r m. (refl, refl)) (held s.table) (clear_from s.mode s) (by_clear lane s.mode s refl)

  -- ---- an event

  pub moves : (s : State) (e : Event) → Move s (step s e).state (seen p (step s e).answer)
  moves s Cpu = by_task s (chosen s.table)
  moves s Tick = by_mode s.mode s refl
  moves s (Act lane a) = by_act s lane a

  -- what is seen of a step is no tick
  step_no_tick : (m : Moment) (w : What) → ticks_in (step_seen m w) ≡ 0
  step_no_tick m what.Idle = refl
  step_no_tick m (what.Began t n v) = refl
  step_no_tick m (what.Ran t n) = refl
  step_no_tick m (what.Copied t n) = refl
  step_no_tick m (what.Left t n ended) = refl

  pub ticks_on : (s : State) (e : Event) → (step s e).state.tick ≡ ticks_in (seen p (step s e).answer) + s.tick
  ticks_on s e = (event_moves s e).tick ∙ go e
    where
      go : (e : Event) → tick_after s e ≡ ticks_in (seen p (step s e).answer) + s.tick
      go Cpu = let z = step_no_tick (processor_step s).answer (processor_step s).answer.what in (let e : s.tick ≡ ticks_in (step_seen (processor_step s).answer (processor_step s).answer.what) + s.tick = omega arith in e)
      go Tick = (let e : s.tick + 1 ≡ 1 + s.tick = omega arith in e)
      go (Act lane a) = (let e : s.tick ≡ 0 + s.tick = omega arith in e)
