-- Each event keeps the image's length.
use Rattle.std.proofs.Common.{◌≡◌, ℕ, ◌+◌, Bool, true, false, List, [], ◌∷◌, length, Option, Some, None, refl, ◌∙◌, ap}
use Rattle.std.proofs.lemmas.Bool.{cond_both}
use Rattle.std.specs.Prelude.{ℤ, Result, Ok, Err, fold, nat_lt}
use Rattle.std.specs.Int.{w32}
use Rattle.std.specs.List.{range_with_len}
use Rattle.lgx_num.specs.Image.{write_signed}
use Rattle.spec_tables.specs.declared.conn.ConnFault.{ConnFault}
use Rattle.spec_tables.specs.declared.conn.Slot.{Slot}
use Rattle.spec_tables.specs.declared.force.ForceFault.{ForceFault}
use Rattle.spec_tables.specs.declared.task.Release.{Release}
use Rattle.spec_tables.specs.declared.task.Release.TheVariants.{Released, Overlap, Inhibited}
use Rattle.spec_tables.specs.Connections.{slot, io_word}
use Rattle.spec_tables.specs.Forces.{Forces, forced, enable, disable, remove_all}
use Rattle.spec_tables.specs.Tasks.{release_answer, chosen, held, rotate, expired, due}
use Rattle.spec_scan.specs.declared.bound.Effect.{Effect}
use Rattle.spec_scan.specs.declared.bound.Effect.TheVariants.{Ran, Up, Down, Trigger, CopyStart, Copied, Left, Minor, Major}
use Rattle.spec_scan.specs.Scan.{Advanced, advance}
use Rattle.spec_machine.specs.declared.answer.Outcome.{Outcome}
use Rattle.spec_machine.specs.declared.answer.TickReport.{TickReport}
use Rattle.spec_machine.specs.declared.reply.Mode.{Mode}
use Rattle.spec_machine.specs.declared.reply.Mode.TheVariants.{Program, Run, Faulted}
use Rattle.spec_machine.specs.declared.reply.EditFault.{EditFault}
use Rattle.spec_machine.specs.declared.event.Event.{Event}
use Rattle.spec_machine.specs.declared.event.Event.TheVariants as events
use Rattle.spec_machine.specs.declared.event.Action.{Action}
use Rattle.spec_machine.specs.declared.event.Action.TheVariants.{WordIn, WordOut, Accept, Test, Untest, Assemble, Cancel, ForceInstall, ForceEnable, ForceDisable, ForceRemove, ModeRun, ModeProgram, Clear}
use Rattle.spec_machine.specs.Edits.{Book, Edited, accept, on_accepted, test, untest, assemble, cancel, selected}
use Rattle.spec_machine.specs.State.{State, Scan, Progress, progress_of, programs_of, start, Answered}
use Rattle.spec_machine.specs.Releases.{after_answer, release_task}
use Rattle.spec_machine.specs.ProcessorStep.{with_progress, scan_ended, after_effect, after_advance, scan_step, task_step}
use Rattle.spec_machine.specs.Ticks.{quiet, release_if_due, after_watchdogs, in_mode, tick}
use Rattle.spec_machine.specs.Actions.{held_or, triggers, put_in, take_out, install_on, force_replied, edit_replied, prescan_all, mode_run_from, mode_program_from, clear_from, act}
use Rattle.spec_machine.specs.Machine.{step, run_from}
use Rattle.spec_reach.specs.Images.{ImagesKeepLength}
use Rattle.spec_reach.proofs.ImageLengths.{SameLength, step_length, prescan_length, word_length}

-- the image stays

abbrev pub SameImage : State → State → Type 0
SameImage s x = x.image ≡ s.image

by_answer : (a : Release) (t : ℕ) (s : State) → SameImage s (after_answer a t s).state
by_answer Released t s = refl
by_answer Overlap t s = refl
by_answer Inhibited t s = refl

by_release : (t : ℕ) (s : State) → SameImage s (release_task t s).state
by_release t s = by_answer (release_answer s.table t) t s

by_end : (t : ℕ) (q : Progress) (s : State) → SameImage s (scan_ended t q s)
by_end t q s = cond_both (nat_lt (q.ended + 1) (length (programs_of s t))) _ _ (SameImage s) (λ b. refl) (λ b. refl)

-- an effect itself changes no byte
pub effect_image : (s : State) (t : ℕ) (q : Progress) (n : ℕ) (effect : Effect) → SameImage s (after_effect s t q n effect).state
effect_image s t q n Ran = refl
effect_image s t q n Up = refl
effect_image s t q n Down = refl
effect_image s t q n (Trigger other) = by_release other s
effect_image s t q n (CopyStart sync) = refl
effect_image s t q n (Copied true sync) = refl
effect_image s t q n (Copied false sync) = refl
effect_image s t q n (Left true) = by_end t q s
effect_image s t q n (Left false) = refl
effect_image s t q n Minor = refl
effect_image s t q n (Major code) = refl

-- a step of a scan leaves the scan's image
pub advance_image : (s : State) (t : ℕ) (q : Progress) (scan : Scan) (a : Advanced) → (after_advance s t q scan a).state.image ≡ a.image
advance_image s t q scan a =
    let q' : Progress = record { ended = q.ended; scan = Some (record scan { position = a.position }); flags = a.flags } in
    effect_image (record (with_progress t q' s) { image = a.image }) t q' scan.program a.effect

by_due : (ts : List ℕ) (x : Answered TickReport) → SameImage x.state (fold release_if_due x ts).state
by_due [] x = refl
by_due (t ∷ ts) x =
    by_due ts (release_if_due x t) ∙ cond_both (due t x.state.tick x.state.table) _ x (λ (y : Answered TickReport). SameImage x.state y.state) (λ b. by_release t x.state) (λ b. refl)

by_watchdogs : (s : State) (o : Option ℕ) → SameImage s (after_watchdogs s o).state
by_watchdogs s (Some t) = refl
by_watchdogs s None = by_due (range_with_len 0 (length s.table.defs)) (record { state = s; answer = quiet })

by_mode : (m : Mode) (s : State) → SameImage s (in_mode m s).state
by_mode Run s = by_watchdogs (record s { table = rotate s.table }) (expired s.tick (rotate s.table))
by_mode Program s = refl
by_mode Faulted s = refl

pub tick_image : (s : State) → SameImage s (tick s).state
tick_image s = by_mode s.mode (record s { tick = s.tick + 1 })

-- ---- lengths

abbrev Kept : State → State → Type 0
Kept s x = length x.image ≡ length s.image

by_scan : (s : State) (t : ℕ) (q : Progress) (o : Option Scan) → Kept s (scan_step s t q o).state
by_scan s t q None = refl
by_scan s t q (Some scan) =
    ap (λ (xs : List ℕ). length xs) (advance_image s t q scan (advance scan.rungs scan.position s.image s.tick scan.first q.flags))
    ∙ step_length scan.rungs scan.position s.image s.tick scan.first q.flags

by_task : (s : State) (o : Option ℕ) → Kept s (task_step s o).state
by_task s None = refl
by_task s (Some t) = by_scan s t (progress_of s t) (progress_of s t).scan

by_held : (b : Bool) (s : State) (a : Answered Outcome) → Kept s a.state → Kept s (held_or b s a).state
by_held true s a h = refl
by_held false s a h = h

by_trigger : (s : State) (m : Mode) (o : Option ℕ) → SameImage s (triggers s m o).state
by_trigger s Run (Some t) = by_release t s
by_trigger s Program (Some t) = refl
by_trigger s Faulted (Some t) = refl
by_trigger s Run None = refl
by_trigger s Program None = refl
by_trigger s Faulted None = refl

by_put : (s : State) (v : ℤ) (k : Result Slot ConnFault) → Kept s (put_in s v k).state
by_put s v (Err e) = refl
by_put s v (Ok k) =
    ap (λ (xs : List ℕ). length xs) (by_trigger (record s { image = write_signed w32 s.image k.byte (forced s.forces k.io v) }) s.mode k.trigger) ∙ word_length s.image k.byte (forced s.forces k.io v)

by_take : (s : State) (k : Result Slot ConnFault) → Kept s (take_out s k).state
by_take s (Err e) = refl
by_take s (Ok k) = refl

by_force : (s : State) (x : Result Forces ForceFault) → Kept s (force_replied s x).state
by_force s (Err e) = refl
by_force s (Ok x) = refl

by_edit : (s : State) (x : Result Edited EditFault) → Kept s (edit_replied s x).state
by_edit s (Err e) = refl
by_edit s (Ok x) = refl

all_length : (books : List Book) (image : List ℕ) → SameLength image (prescan_all books image)
all_length [] image = refl
all_length (b ∷ bs) image = all_length bs _ ∙ prescan_length (selected b) image

by_run : (m : Mode) (s : State) → Kept s (mode_run_from m s).state
by_run Program s = all_length s.books s.image
by_run Run s = refl
by_run Faulted s = refl

by_program : (m : Mode) (s : State) → Kept s (mode_program_from m s).state
by_program Run s = refl
by_program Program s = refl
by_program Faulted s = refl

by_clear : (m : Mode) (s : State) → Kept s (clear_from m s).state
by_clear Faulted s = refl
by_clear Run s = refl
by_clear Program s = refl

by_act : (s : State) (lane : ℕ) (a : Action) → Kept s (act s lane a).state
by_act s lane (WordIn conn word v) = by_held (held s.table) s _ (by_put s v (slot s.plan.conns conn word false))
by_act s lane (WordOut conn word) = by_held (held s.table) s _ (by_take s (slot s.plan.conns conn word true))
by_act s lane (Accept c) = by_edit s (accept s.plan.tags s.plan.names s.books lane c)
by_act s lane (Test n) = by_edit s (on_accepted test s.books lane n)
by_act s lane (Untest n) = by_edit s (on_accepted untest s.books lane n)
by_act s lane (Assemble n) = by_edit s (on_accepted assemble s.books lane n)
by_act s lane (Cancel n) = by_edit s (on_accepted cancel s.books lane n)
by_act s lane (ForceInstall conn word mask v) = by_force s (install_on s.forces (io_word s.plan.conns conn word) mask v)
by_act s lane ForceEnable = by_force s (enable s.forces)
by_act s lane ForceDisable = by_force s (Ok (disable s.forces))
by_act s lane ForceRemove = by_force s (remove_all s.forces)
by_act s lane ModeRun = by_held (held s.table) s _ (by_run s.mode s)
by_act s lane ModeProgram = by_held (held s.table) s _ (by_program s.mode s)
by_act s lane Clear = by_held (held s.table) s _ (by_clear s.mode s)

by_event : (s : State) (e : Event) → Kept s (step s e).state
by_event s events.Cpu = by_task s (chosen s.table)
by_event s events.Tick = ap (λ (xs : List ℕ). length xs) (tick_image s)
by_event s (events.Act lane a) = by_act s lane a

along : (s : State) (es : List Event) → Kept s (run_from s es)
along s [] = refl
along s (e ∷ es) = along (step s e).state es ∙ by_event s e

pub images_keep_length : ImagesKeepLength
images_keep_length p journal = along (start p) journal
