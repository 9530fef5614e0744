-- Who changes the books: the five edits that are taken, and nothing else.
use Rattle.std.proofs.Common.{◌≡◌, ℕ, ◌+◌, Bool, true, false, List, [], ◌∷◌, length, Option, Some, None, refl, ◌∙◌}
use Rattle.std.proofs.lemmas.Bool.{cond_both}
use Rattle.std.specs.Prelude.{ℤ, Result, Ok, Err, fold, nat_lt}
use Rattle.std.specs.Int.{w32}
use Rattle.std.specs.List.{range_with_len}
use Rattle.lgx_num.specs.Image.{write_signed}
use Rattle.spec_tables.specs.declared.conn.ConnFault.{ConnFault}
use Rattle.spec_tables.specs.declared.conn.Slot.{Slot}
use Rattle.spec_tables.specs.declared.force.ForceFault.{ForceFault}
use Rattle.spec_tables.specs.declared.task.Release.{Release}
use Rattle.spec_tables.specs.declared.task.Release.TheVariants.{Released, Overlap, Inhibited}
use Rattle.spec_tables.specs.Forces.{Forces, forced}
use Rattle.spec_tables.specs.Tasks.{release_answer, chosen, rotate, expired, due}
use Rattle.spec_scan.specs.declared.bound.Effect.{Effect}
use Rattle.spec_scan.specs.declared.bound.Effect.TheVariants.{Ran, Up, Down, Trigger, CopyStart, Copied, Left, Minor, Major}
use Rattle.spec_scan.specs.Scan.{Advanced, advance}
use Rattle.spec_machine.specs.declared.answer.Outcome.{Outcome}
use Rattle.spec_machine.specs.declared.answer.TickReport.{TickReport}
use Rattle.spec_machine.specs.declared.reply.Mode.{Mode}
use Rattle.spec_machine.specs.declared.reply.Mode.TheVariants.{Program, Run, Faulted}
use Rattle.spec_machine.specs.State.{State, Scan, Progress, progress_of, programs_of, Answered}
use Rattle.spec_machine.specs.Releases.{after_answer, release_task}
use Rattle.spec_machine.specs.ProcessorStep.{processor_step, with_progress, scan_ended, after_effect, after_advance, scan_step, task_step}
use Rattle.spec_machine.specs.Ticks.{quiet, release_if_due, after_watchdogs, in_mode, tick}
use Rattle.spec_machine.specs.Actions.{held_or, triggers, put_in, take_out, force_replied, mode_run_from, mode_program_from, clear_from}

abbrev SameBooks : State → State → Type 0
SameBooks s x = x.books ≡ s.books

by_answer : (a : Release) (t : ℕ) (s : State) → SameBooks s (after_answer a t s).state
by_answer Released t s = refl
by_answer Overlap t s = refl
by_answer Inhibited t s = refl

by_release : (t : ℕ) (s : State) → SameBooks s (release_task t s).state
by_release t s = by_answer (release_answer s.table t) t s

-- ---- the processor step

by_end : (t : ℕ) (q : Progress) (s : State) → SameBooks s (scan_ended t q s)
by_end t q s = cond_both (nat_lt (q.ended + 1) (length (programs_of s t))) _ _ (SameBooks s) (λ b. refl) (λ b. refl)

by_effect : (s : State) (t : ℕ) (q : Progress) (n : ℕ) (effect : Effect) → SameBooks s (after_effect s t q n effect).state
by_effect s t q n Ran = refl
by_effect s t q n Up = refl
by_effect s t q n Down = refl
by_effect s t q n (Trigger other) = by_release other s
by_effect s t q n (CopyStart sync) = refl
by_effect s t q n (Copied true sync) = refl
by_effect s t q n (Copied false sync) = refl
by_effect s t q n (Left true) = by_end t q s
by_effect s t q n (Left false) = refl
by_effect s t q n Minor = refl
by_effect s t q n (Major code) = refl

by_advance : (s : State) (t : ℕ) (q : Progress) (scan : Scan) (a : Advanced) → SameBooks s (after_advance s t q scan a).state
by_advance s t q scan a =
    let q' : Progress = record { ended = q.ended; scan = Some (record scan { position = a.position }); flags = a.flags } in
    by_effect (record (with_progress t q' s) { image = a.image }) t q' scan.program a.effect

by_scan : (s : State) (t : ℕ) (q : Progress) (o : Option Scan) → SameBooks s (scan_step s t q o).state
by_scan s t q None = refl
by_scan s t q (Some scan) = by_advance s t q scan (advance scan.rungs scan.position s.image s.tick scan.first q.flags)

by_task : (s : State) (o : Option ℕ) → SameBooks s (task_step s o).state
by_task s None = refl
by_task s (Some t) = by_scan s t (progress_of s t) (progress_of s t).scan

pub step_books : (s : State) → SameBooks s (processor_step s).state
step_books s = by_task s (chosen s.table)

-- ---- the tick

by_due : (ts : List ℕ) (x : Answered TickReport) → SameBooks x.state (fold release_if_due x ts).state
by_due [] x = refl
by_due (t ∷ ts) x =
    by_due ts (release_if_due x t) ∙ cond_both (due t x.state.tick x.state.table) _ x (λ (y : Answered TickReport). SameBooks x.state y.state) (λ b. by_release t x.state) (λ b. refl)

by_watchdogs : (s : State) (o : Option ℕ) → SameBooks s (after_watchdogs s o).state
by_watchdogs s (Some t) = refl
by_watchdogs s None = by_due (range_with_len 0 (length s.table.defs)) (record { state = s; answer = quiet })

by_mode : (m : Mode) (s : State) → SameBooks s (in_mode m s).state
by_mode Run s = by_watchdogs (record s { table = rotate s.table }) (expired s.tick (rotate s.table))
by_mode Program s = refl
by_mode Faulted s = refl

pub tick_books : (s : State) → SameBooks s (tick s).state
tick_books s = by_mode s.mode (record s { tick = s.tick + 1 })

-- ---- actions but for edits

pub held_books : (b : Bool) (s : State) (a : Answered Outcome) → SameBooks s a.state → SameBooks s (held_or b s a).state
held_books true s a h = refl
held_books false s a h = h

by_trigger : (s : State) (m : Mode) (o : Option ℕ) → SameBooks s (triggers s m o).state
by_trigger s Run (Some t) = by_release t s
by_trigger s Program (Some t) = refl
by_trigger s Faulted (Some t) = refl
by_trigger s Run None = refl
by_trigger s Program None = refl
by_trigger s Faulted None = refl

pub put_books : (s : State) (v : ℤ) (k : Result Slot ConnFault) → SameBooks s (put_in s v k).state
put_books s v (Err e) = refl
put_books s v (Ok k) = by_trigger (record s { image = write_signed w32 s.image k.byte (forced s.forces k.io v) }) s.mode k.trigger

pub take_books : (s : State) (k : Result Slot ConnFault) → SameBooks s (take_out s k).state
take_books s (Err e) = refl
take_books s (Ok k) = refl

pub force_books : (s : State) (x : Result Forces ForceFault) → SameBooks s (force_replied s x).state
force_books s (Err e) = refl
force_books s (Ok x) = refl

pub run_books : (m : Mode) (s : State) → SameBooks s (mode_run_from m s).state
run_books Program s = refl
run_books Run s = refl
run_books Faulted s = refl

pub program_books : (m : Mode) (s : State) → SameBooks s (mode_program_from m s).state
program_books Run s = refl
program_books Program s = refl
program_books Faulted s = refl

pub clear_books : (m : Mode) (s : State) → SameBooks s (clear_from m s).state
clear_books Faulted s = refl
clear_books Run s = refl
clear_books Program s = refl
