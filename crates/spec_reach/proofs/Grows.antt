-- How an event moves the tick, the tick of the last change to Run, and the next rank.
use Rattle.std.proofs.Common.{◌≡◌, ℕ, zero, suc, ◌+◌, ◌≤◌, ◌⊎◌, inl, inr, Bool, true, false, List, length, Option, Some, None, refl, sym, ◌∙◌, ap, subst, arith}
use Rattle.std.proofs.lemmas.Bool.{cond_both}
use Rattle.std.specs.Prelude.{ℤ, Result, Ok, Err, fold, nat_lt, slice_set}
use Rattle.std.specs.Int.{w32}
use Rattle.std.specs.List.{range_with_len}
use Rattle.lgx_num.specs.Image.{write_signed}
use Rattle.spec_tables.specs.declared.conn.ConnFault.{ConnFault}
use Rattle.spec_tables.specs.declared.conn.Slot.{Slot}
use Rattle.spec_tables.specs.declared.force.ForceFault.{ForceFault}
use Rattle.spec_tables.specs.declared.task.Release.{Release}
use Rattle.spec_tables.specs.declared.task.Release.TheVariants.{Released, Overlap, Inhibited}
use Rattle.spec_tables.specs.Connections.{slot, io_word}
use Rattle.spec_tables.specs.Forces.{Forces, forced, enable, remove_all}
use Rattle.spec_tables.specs.Tasks.{Table, state_of, is_open, release_answer, chosen, held, stop, rotate, unless_open, to_back, release_some, put_up_if, if_continuous, continuous_task, finish, expired, due}
use Rattle.spec_tables.specs.Tasks as tasks
use Rattle.spec_scan.specs.declared.bound.Effect.{Effect}
use Rattle.spec_scan.specs.declared.bound.Effect.TheVariants.{Ran, Up, Down, Trigger, CopyStart, Copied, Left, Minor, Major}
use Rattle.spec_scan.specs.Scan.{Advanced, advance}
use Rattle.spec_machine.specs.declared.answer.Outcome.{Outcome}
use Rattle.spec_machine.specs.declared.answer.TickReport.{TickReport}
use Rattle.spec_machine.specs.declared.reply.Mode.{Mode}
use Rattle.spec_machine.specs.declared.reply.Mode.TheVariants.{Program, Run, Faulted}
use Rattle.spec_machine.specs.declared.reply.EditFault.{EditFault}
use Rattle.spec_machine.specs.declared.event.Event.{Event}
use Rattle.spec_machine.specs.declared.event.Event.TheVariants as events
use Rattle.spec_machine.specs.declared.event.Action.{Action}
use Rattle.spec_machine.specs.declared.event.Action.TheVariants.{WordIn, WordOut, Accept, Test, Untest, Assemble, Cancel, ForceInstall, ForceEnable, ForceDisable, ForceRemove, ModeRun, ModeProgram, Clear}
use Rattle.spec_machine.specs.Edits.{Edited, accept, on_accepted, test, untest, assemble, cancel}
use Rattle.spec_machine.specs.State.{State, Scan, Progress, progress_of, programs_of, Answered}
use Rattle.spec_machine.specs.Releases.{after_answer}
use Rattle.spec_machine.specs.ProcessorStep.{processor_step, with_progress, scan_ended, after_effect, after_advance, scan_step, task_step}
use Rattle.spec_machine.specs.Ticks.{quiet, release_if_due, after_watchdogs, in_mode}
use Rattle.spec_machine.specs.Actions.{held_or, triggers, put_in, take_out, install_on, force_replied, edit_replied, mode_run_from, mode_program_from, clear_from, act}
use Rattle.spec_machine.specs.Machine.{step}
use Rattle.spec_tables.specs.declared.task.TaskDef.{TaskDef}
use Rattle.spec_reach.proofs.Changes.{tick_after}
use Rattle.spec_reach.proofs.Sizes.{unless_open_keeps}

-- a state x after s, within one event
pub record Grows (k now : ℕ) (s x : Table) : Type 0 where
  pub since : (x.run_since ≡ s.run_since) ⊎ (x.run_since ≡ now)
  pub next : x.next ≤ s.next + k

same : (k now : ℕ) (s : Table) → Grows k now s s
same k now s = record { since = inl refl; next = omega arith }

-- ---- the table

put_grows : (a : Release) (t now : ℕ) (s : Table) → Grows 1 now s (put_up_if a t now s)
put_grows Released t now s = record { since = inl refl; next = omega arith }
put_grows Overlap t now s = same 1 now s
put_grows Inhibited t now s = same 1 now s

some_grows : (o : Option ℕ) (now : ℕ) (s : Table) → Grows 1 now s (release_some o now s)
some_grows None now s = same 1 now s
some_grows (Some t) now s = put_grows (release_answer s t) t now s

start_grows : (now : ℕ) (s : Table) → Grows 1 now s (tasks.start now s)
start_grows now s =
    let g = some_grows (continuous_task s) now (record (stop s) { run_since = now }) in
    record { since = elim g.since [ inl e ↦ inr e | inr e ↦ inr e ]; next = g.next }

finish_grows : (t now : ℕ) (s : Table) → Grows 1 now s (finish t now s)
finish_grows t now s = let g = some_grows (if_continuous s t) now (record s { states = slice_set s.states t None }) in record { since = g.since; next = g.next }

rotate_grows : (now : ℕ) (s : Table) (o : Option ℕ) → Grows 1 now s (unless_open o s)
rotate_grows now s None = same 1 now s
rotate_grows now s (Some t) = cond_both (is_open (state_of s t)) s (to_back t s) (Grows 1 now s) (λ b. same 1 now s) (λ b. record { since = inl refl; next = omega arith })

-- ---- the processor step

-- the tick stays too
pub record Moves (k : ℕ) (s x : State) : Type 0 where
  pub tick : x.tick ≡ s.tick
  pub table : Grows k s.tick s.table x.table

still : (k : ℕ) (s : State) → Moves k s s
still k s = record { tick = refl; table = same k s.tick s.table }

by_answer : (a : Release) (t : ℕ) (s : State) → Moves 1 s (after_answer a t s).state
by_answer Released t s = record { tick = refl; table = record { since = inl refl; next = omega arith } }
by_answer Overlap t s = record { tick = refl; table = same 1 s.tick s.table }
by_answer Inhibited t s = still 1 s

by_end : (t : ℕ) (q : Progress) (s : State) → Moves 1 s (scan_ended t q s)
by_end t q s =
    cond_both (nat_lt (q.ended + 1) (length (programs_of s t))) _ _ (Moves 1 s)
    (λ b. record { tick = refl; table = record { since = inl refl; next = omega arith } }) (λ b. record { tick = refl; table = finish_grows t s.tick s.table })

plain : (s x : State) → x.tick ≡ s.tick → x.table.run_since ≡ s.table.run_since → x.table.next ≡ s.table.next → Moves 1 s x
plain s x e f g = record { tick = e; table = record { since = inl f; next = omega arith } }

by_effect : (s : State) (t : ℕ) (q : Progress) (n : ℕ) (effect : Effect) → Moves 1 s (after_effect s t q n effect).state
by_effect s t q n Ran = plain s _ refl refl refl
by_effect s t q n Up = plain s _ refl refl refl
by_effect s t q n Down = plain s _ refl refl refl
by_effect s t q n (Trigger other) = by_answer (release_answer s.table other) other s
by_effect s t q n (CopyStart sync) = plain s _ refl refl refl
by_effect s t q n (Copied true sync) = plain s _ refl refl refl
by_effect s t q n (Copied false sync) = plain s _ refl refl refl
by_effect s t q n (Left true) = by_end t q s
by_effect s t q n (Left false) = plain s _ refl refl refl
by_effect s t q n Minor = plain s _ refl refl refl
by_effect s t q n (Major code) = plain s _ refl refl refl

by_advance : (s : State) (t : ℕ) (q : Progress) (scan : Scan) (a : Advanced) → Moves 1 s (after_advance s t q scan a).state
by_advance s t q scan a =
    let q' : Progress = record { ended = q.ended; scan = Some (record scan { position = a.position }); flags = a.flags } in
    let m = by_effect (record (with_progress t q' s) { image = a.image }) t q' scan.program a.effect in
    record { tick = m.tick; table = m.table }

by_scan : (s : State) (t : ℕ) (q : Progress) (o : Option Scan) → Moves 1 s (scan_step s t q o).state
by_scan s t q None = plain s _ refl refl refl
by_scan s t q (Some scan) = by_advance s t q scan (advance scan.rungs scan.position s.image s.tick scan.first q.flags)

by_task : (s : State) (o : Option ℕ) → Moves 1 s (task_step s o).state
by_task s None = still 1 s
by_task s (Some t) = by_scan s t (progress_of s t) (progress_of s t).scan

-- ---- the tick

on : (k : ℕ) (s x y : State) → Moves k s x → Moves 1 x y → Moves (k + 1) s y
on k s x y g h =
    let e = g.tick in
    let a = g.table.next in
    let b = h.table.next in
    record {
      tick = h.tick ∙ e;
      table = record {
        since = elim h.table.since [ inl f ↦ elim g.table.since [ inl i ↦ inl (f ∙ i) | inr i ↦ inr (f ∙ i) ] | inr f ↦ inr (f ∙ e) ];
        next = omega arith;
      };
    }

by_due : (k n j : ℕ) (s : State) (x : Answered TickReport) → Moves k s x.state → Moves (k + n) s (fold release_if_due x (range_with_len j n)).state
by_due k zero j s x g = subst (λ i. Moves i s x.state) (let e : k ≡ k + 0 = omega arith in e) g
by_due k (suc n) j s x g =
    subst (λ i. Moves i s (fold release_if_due (release_if_due x j) (range_with_len (j + 1) n)).state) (let e : k + 1 + n ≡ k + suc n = omega arith in e)
    (by_due (k + 1) n (j + 1) s (release_if_due x j)
    (on k s x.state (release_if_due x j).state g (cond_both (due j x.state.tick x.state.table) _ x (λ (y : Answered TickReport). Moves 1 x.state y.state) (λ b. by_answer (release_answer x.state.table j) j x.state) (λ b. still 1 x.state))))

by_watchdogs : (s x : State) (o : Option ℕ) → Moves 1 s x → Moves (1 + length x.table.defs) s (after_watchdogs x o).state
by_watchdogs s x (Some t) g = (let a = g.table.next in record { tick = g.tick; table = record { since = g.table.since; next = omega arith } })
by_watchdogs s x None g = by_due 1 (length x.table.defs) 0 s (record { state = x; answer = quiet }) g

-- ---- actions

held_grows : (b : Bool) (s : State) (a : Answered Outcome) → Moves 1 s a.state → Moves 1 s (held_or b s a).state
held_grows true s a h = still 1 s
held_grows false s a h = h

by_trigger : (s : State) (m : Mode) (o : Option ℕ) → Moves 1 s (triggers s m o).state
by_trigger s Run (Some t) = by_answer (release_answer s.table t) t s
by_trigger s Program (Some t) = still 1 s
by_trigger s Faulted (Some t) = still 1 s
by_trigger s Run None = still 1 s
by_trigger s Program None = still 1 s
by_trigger s Faulted None = still 1 s

by_put : (s : State) (v : ℤ) (k : Result Slot ConnFault) → Moves 1 s (put_in s v k).state
by_put s v (Err e) = still 1 s
by_put s v (Ok k) = let m = by_trigger (record s { image = write_signed w32 s.image k.byte (forced s.forces k.io v) }) s.mode k.trigger in record { tick = m.tick; table = m.table }

by_take : (s : State) (k : Result Slot ConnFault) → Moves 1 s (take_out s k).state
by_take s (Err e) = still 1 s
by_take s (Ok k) = still 1 s

by_force : (s : State) (x : Result Forces ForceFault) → Moves 1 s (force_replied s x).state
by_force s (Err e) = still 1 s
by_force s (Ok x) = plain s _ refl refl refl

by_edit : (s : State) (x : Result Edited EditFault) → Moves 1 s (edit_replied s x).state
by_edit s (Err e) = still 1 s
by_edit s (Ok x) = plain s _ refl refl refl

by_run : (m : Mode) (s : State) → Moves 1 s (mode_run_from m s).state
by_run Program s = record { tick = refl; table = start_grows s.tick s.table }
by_run Run s = still 1 s
by_run Faulted s = still 1 s

by_program : (m : Mode) (s : State) → Moves 1 s (mode_program_from m s).state
by_program Run s = plain s _ refl refl refl
by_program Program s = still 1 s
by_program Faulted s = still 1 s

by_clear : (m : Mode) (s : State) → Moves 1 s (clear_from m s).state
by_clear Faulted s = plain s _ refl refl refl
by_clear Run s = still 1 s
by_clear Program s = still 1 s

by_act : (s : State) (lane : ℕ) (a : Action) → Moves 1 s (act s lane a).state
by_act s lane (WordIn conn word v) = held_grows (held s.table) s _ (by_put s v (slot s.plan.conns conn word false))
by_act s lane (WordOut conn word) = held_grows (held s.table) s _ (by_take s (slot s.plan.conns conn word true))
by_act s lane (Accept c) = by_edit s (accept s.plan.tags s.plan.names s.books lane c)
by_act s lane (Test n) = by_edit s (on_accepted test s.books lane n)
by_act s lane (Untest n) = by_edit s (on_accepted untest s.books lane n)
by_act s lane (Assemble n) = by_edit s (on_accepted assemble s.books lane n)
by_act s lane (Cancel n) = by_edit s (on_accepted cancel s.books lane n)
by_act s lane (ForceInstall conn word mask v) = by_force s (install_on s.forces (io_word s.plan.conns conn word) mask v)
by_act s lane ForceEnable = by_force s (enable s.forces)
by_act s lane ForceDisable = plain s _ refl refl refl
by_act s lane ForceRemove = by_force s (remove_all s.forces)
by_act s lane ModeRun = held_grows (held s.table) s _ (by_run s.mode s)
by_act s lane ModeProgram = held_grows (held s.table) s _ (by_program s.mode s)
by_act s lane Clear = held_grows (held s.table) s _ (by_clear s.mode s)

-- ---- an event

-- the tick is told by the event; the rest moves by as much as there are tasks, and one more
pub record EventMoves (s : State) (e : Event) (x : State) : Type 0 where
  pub tick : x.tick ≡ tick_after s e
  pub since : (x.table.run_since ≡ s.table.run_since) ⊎ (x.table.run_since ≡ x.tick)
  pub next : x.table.next ≤ s.table.next + (length s.table.defs + 1)

few : (s x : State) (e : Event) → tick_after s e ≡ s.tick → Moves 1 s x → EventMoves s e x
few s x e same m =
    let n = m.table.next in
    record { tick = m.tick ∙ sym same; since = elim m.table.since [ inl f ↦ inl f | inr f ↦ inr (f ∙ sym m.tick) ]; next = omega arith }

by_mode : (m : Mode) (s : State) → EventMoves s events.Tick (in_mode m (record s { tick = s.tick + 1 })).state
by_mode Run s =
    let x = record s { tick = s.tick + 1 } in
    let y = record x { table = rotate s.table } in
    let m = by_watchdogs x y (expired y.tick y.table) (record { tick = refl; table = rotate_grows x.tick s.table (chosen s.table) }) in
    let d : length y.table.defs ≡ length s.table.defs = ap (λ (xs : List TaskDef). length xs) (unless_open_keeps (chosen s.table) s.table).defs in
    let n = m.table.next in
    record { tick = m.tick; since = elim m.table.since [ inl f ↦ inl f | inr f ↦ inr (f ∙ sym m.tick) ]; next = omega arith }
by_mode Program s = record { tick = refl; since = inl refl; next = omega arith }
by_mode Faulted s = record { tick = refl; since = inl refl; next = omega arith }

pub event_moves : (s : State) (e : Event) → EventMoves s e (step s e).state
event_moves s events.Cpu = few s (processor_step s).state events.Cpu refl (by_task s (chosen s.table))
event_moves s events.Tick = by_mode s.mode s
event_moves s (events.Act lane a) = few s (act s lane a).state (events.Act lane a) refl (by_act s lane a)
