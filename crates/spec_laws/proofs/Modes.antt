-- The law of modes.
use Rattle.std.proofs.Common.{◌≡◌, ℕ, zero, suc, ◌+◌, Bool, true, false, cond, List, [], ◌∷◌, length, Option, Some, None, refl, sym, ◌∙◌, ap}
use Rattle.std.specs.Prelude.{ℤ, Result, Ok, Err, not, ◌||◌, nat_lt, is_some, slice_index_or}
use Rattle.std.specs.Int.{w32}
use Rattle.std.specs.List.{list_any}
use Rattle.std.proofs.lemmas.Bool.{cond_both}
use Rattle.lgx_num.specs.Image.{write_signed}
use Rattle.spec_tables.specs.declared.conn.ConnFault.{ConnFault}
use Rattle.spec_tables.specs.declared.conn.Slot.{Slot}
use Rattle.spec_tables.specs.declared.force.ForceFault.{ForceFault}
use Rattle.spec_tables.specs.declared.task.Release.{Release}
use Rattle.spec_tables.specs.declared.task.Release.TheVariants.{Released, Overlap, Inhibited}
use Rattle.spec_tables.specs.Connections.{slot, io_word}
use Rattle.spec_tables.specs.Forces.{Forces, forced, enable, remove_all}
use Rattle.spec_tables.specs.Tasks.{TaskState, chosen, rotate, release_answer, held, expired}
use Rattle.spec_scan.specs.declared.bound.Effect.{Effect}
use Rattle.spec_scan.specs.declared.bound.Effect.TheVariants as effect
use Rattle.spec_scan.specs.Scan.{Advanced, advance}
use Rattle.spec_machine.specs.declared.answer.What.TheVariants as what
use Rattle.spec_machine.specs.declared.answer.Outcome.{Outcome}
use Rattle.spec_machine.specs.declared.answer.TickReport.{TickReport}
use Rattle.spec_machine.specs.declared.answer.Moment.{Moment}
use Rattle.spec_machine.specs.declared.event.Action.{Action}
use Rattle.spec_machine.specs.declared.event.Action.TheVariants.{WordIn, WordOut, Accept, Test, Untest, Assemble, Cancel, ForceInstall, ForceEnable, ForceDisable, ForceRemove, ModeRun, ModeProgram, Clear}
use Rattle.spec_machine.specs.declared.event.Event.{Event}
use Rattle.spec_machine.specs.declared.event.Event.TheVariants as events
use Rattle.spec_machine.specs.declared.reply.EditFault.{EditFault}
use Rattle.spec_machine.specs.declared.reply.Mode.{Mode}
use Rattle.spec_machine.specs.declared.reply.Mode.TheVariants.{Program, Run, Faulted}
use Rattle.spec_machine.specs.Actions.{held_or, after_trigger, triggers, put_in, take_out, install_on, force_replied, edit_replied, mode_run_from, mode_program_from, clear_from, act}
use Rattle.spec_machine.specs.Edits.{Edited, accept, on_accepted, test, untest, assemble, cancel}
use Rattle.spec_machine.specs.Machine.{OfStep, OfTick, OfAction, step}
use Rattle.spec_machine.specs.ProcessorStep.{triggered, plainly, scan_ended, with_progress, after_effect, after_advance, scan_step, task_step}
use Rattle.spec_machine.specs.Project.{Project}
use Rattle.spec_machine.specs.Releases.{after_answer}
use Rattle.spec_machine.specs.State.{State, Scan, Progress, progress_of, programs_of, Answered}
use Rattle.spec_machine.specs.Ticks.{after_watchdogs, in_mode}
use Rattle.spec_schedule.specs.Refusals.{is_mode}
use Rattle.spec_reach.proofs.Reached.{IsReached, reached_next, known_at}
use Rattle.spec_laws.specs.Modes.{mode_after, KeepsMode, ModesAreKept}
use Rattle.spec_laws.proofs.AlongStages.{stage, each_stage}
use Rattle.spec_laws.proofs.Masks.{walked}

-- ---- a processor step

abbrev Steps : State → Answered Moment → Type 0
Steps s x = x.state.mode ≡ mode_after s.mode (OfStep x.answer)

by_answer : (s : State) (t n other : ℕ) (answer : Release) → Steps s (triggered (what.Ran t n) other (after_answer answer other s))
by_answer s t n other Released = refl
by_answer s t n other Overlap = refl
by_answer s t n other Inhibited = refl

by_end : (s : State) (t n : ℕ) (q : Progress) → Steps s (plainly (scan_ended t q s) (what.Left t n true))
by_end s t n q =
    cond_both (nat_lt (q.ended + 1) (length (programs_of s t))) _ _ (λ (x : State). Steps s (plainly x (what.Left t n true))) (λ b. refl) (λ b. refl)

by_effect : (s : State) (t : ℕ) (q : Progress) (n : ℕ) (e : Effect) → Steps s (after_effect s t q n e)
by_effect s t q n effect.Ran = refl
by_effect s t q n effect.Up = refl
by_effect s t q n effect.Down = refl
by_effect s t q n (effect.Trigger other) = by_answer s t n other (release_answer s.table other)
by_effect s t q n (effect.CopyStart sync) = refl
by_effect s t q n (effect.Copied true sync) = refl
by_effect s t q n (effect.Copied false sync) = refl
by_effect s t q n (effect.Left true) = by_end s t n q
by_effect s t q n (effect.Left false) = refl
by_effect s t q n effect.Minor = refl
by_effect s t q n (effect.Major code) = refl

by_scan : (s : State) (t : ℕ) (q : Progress) (o : Option Scan) → Steps s (scan_step s t q o)
by_scan s t q None = refl
by_scan s t q (Some scan) = go (advance scan.rungs scan.position s.image s.tick scan.first q.flags)
  where
    go : (a : Advanced) → Steps s (after_advance s t q scan a)
    go a =
        let q' : Progress = record { ended = q.ended; scan = Some (record scan { position = a.position }); flags = a.flags } in
        by_effect (record (with_progress t q' s) { image = a.image }) t q' scan.program a.effect

by_task : (s : State) (o : Option ℕ) → Steps s (task_step s o)
by_task s None = refl
by_task s (Some t) = by_scan s t (progress_of s t) (progress_of s t).scan

-- ---- a tick

abbrev Ticks : State → Answered TickReport → Type 0
Ticks s x = x.state.mode ≡ mode_after s.mode (OfTick x.answer)

by_watchdogs : (s y : State) → y.mode ≡ s.mode → (o : Option ℕ) → Ticks s (after_watchdogs y o)
by_watchdogs s y m (Some t) = refl
by_watchdogs s y m None = let w = walked y in w.mode ∙ (m ∙ sym (ap (λ (o : Option ℕ). cond (is_some o) Faulted s.mode) w.watchdog))

by_mode : (s : State) (m : Mode) → Ticks s (in_mode m (record s { tick = s.tick + 1 }))
by_mode s Run =
    let y = record s { tick = s.tick + 1; table = rotate s.table } in by_watchdogs s y refl (expired y.tick y.table)
by_mode s Program = refl
by_mode s Faulted = refl

-- ---- an action

module _ (s : State) (lane : ℕ) where
  abbrev Acts : Action → Answered Outcome → Type 0
  Acts a x = x.state.mode ≡ mode_after s.mode (OfAction lane a x.answer)

  by_release : (name : List ℕ) (word t : ℕ) (v : ℤ) (y : State) (answer : Release) → y.mode ≡ s.mode → Acts (WordIn name word v) (after_trigger t (after_answer answer t y))
  by_release name word t v y Released m = m
  by_release name word t v y Overlap m = m
  by_release name word t v y Inhibited m = m

  by_trigger : (name : List ℕ) (word : ℕ) (v : ℤ) (y : State) (m : Mode) (o : Option ℕ) → y.mode ≡ s.mode → Acts (WordIn name word v) (triggers y m o)
  by_trigger name word v y Run (Some t) e = by_release name word t v y (release_answer y.table t) e
  by_trigger name word v y Program (Some t) e = e
  by_trigger name word v y Faulted (Some t) e = e
  by_trigger name word v y Run None e = e
  by_trigger name word v y Program None e = e
  by_trigger name word v y Faulted None e = e

  by_put : (name : List ℕ) (word : ℕ) (v : ℤ) (k : Result Slot ConnFault) → Acts (WordIn name word v) (put_in s v k)
  by_put name word v (Err f) = refl
  by_put name word v (Ok k) = by_trigger name word v (record s { image = write_signed w32 s.image k.byte (forced s.forces k.io v) }) s.mode k.trigger refl

  word_held : (name : List ℕ) (word : ℕ) (v : ℤ) (b : Bool) (x : Answered Outcome) → Acts (WordIn name word v) x → Acts (WordIn name word v) (held_or b s x)
  word_held name word v true x h = refl
  word_held name word v false x h = h

  by_take : (name : List ℕ) (word : ℕ) (b : Bool) (k : Result Slot ConnFault) → Acts (WordOut name word) (held_or b s (take_out s k))
  by_take name word true k = refl
  by_take name word false (Err f) = refl
  by_take name word false (Ok k) = refl

  edited : (k : Result Edited EditFault) → (edit_replied s k).state.mode ≡ s.mode
  edited (Err f) = refl
  edited (Ok x) = refl

  forces : (k : Result Forces ForceFault) → (force_replied s k).state.mode ≡ s.mode
  forces (Err f) = refl
  forces (Ok x) = refl

  by_run : (b : Bool) (m : Mode) → Acts ModeRun (held_or b s (mode_run_from m s))
  by_run true m = refl
  by_run false Program = refl
  by_run false Run = refl
  by_run false Faulted = refl

  by_program : (b : Bool) (m : Mode) → Acts ModeProgram (held_or b s (mode_program_from m s))
  by_program true m = refl
  by_program false Program = refl
  by_program false Run = refl
  by_program false Faulted = refl

  by_clear : (b : Bool) (m : Mode) → Acts Clear (held_or b s (clear_from m s))
  by_clear true m = refl
  by_clear false Program = refl
  by_clear false Run = refl
  by_clear false Faulted = refl

  by_act : (a : Action) → Acts a (act s lane a)
  by_act (WordIn name word v) = word_held name word v (held s.table) (put_in s v (slot s.plan.conns name word false)) (by_put name word v (slot s.plan.conns name word false))
  by_act (WordOut name word) = by_take name word (held s.table) (slot s.plan.conns name word true)
  by_act (Accept c) = edited (accept s.plan.tags s.plan.names s.books lane c)
  by_act (Test n) = edited (on_accepted test s.books lane n)
  by_act (Untest n) = edited (on_accepted untest s.books lane n)
  by_act (Assemble n) = edited (on_accepted assemble s.books lane n)
  by_act (Cancel n) = edited (on_accepted cancel s.books lane n)
  by_act (ForceInstall name word mask v) = forces (install_on s.forces (io_word s.plan.conns name word) mask v)
  by_act ForceEnable = forces (enable s.forces)
  by_act ForceDisable = refl
  by_act ForceRemove = forces (remove_all s.forces)
  by_act ModeRun = by_run (held s.table) s.mode
  by_act ModeProgram = by_program (held s.table) s.mode
  by_act Clear = by_clear (held s.table) s.mode

-- ---- every task is down outside Run

all_down : (us : List (Option TaskState)) → ((t : ℕ) (u : TaskState) → slice_index_or us t None ≡ Some u → ⊥) → list_any (λ u. is_some u) us ≡ false
all_down [] h = refl
all_down (None ∷ us) h = all_down us (λ t u g. h (suc t) u g)
all_down (Some u ∷ us) h = absurd (h zero u refl)

down_in : (m : Mode) (us : List (Option TaskState)) → ((t : ℕ) (u : TaskState) → slice_index_or us t None ≡ Some u → m ≡ Run) → (is_mode m Run || not (list_any (λ u. is_some u) us)) ≡ true
down_in Run us h = refl
down_in Program us h = ap not (all_down us (λ t u g. (let f : Program ≡ Run → ⊥ = λ e. cc in f (h t u g))))
down_in Faulted us h = ap not (all_down us (λ t u g. (let f : Faulted ≡ Run → ⊥ = λ e. cc in f (h t u g))))

-- ---- along a run

mode_of : (s : State) (e : Event) → (step s e).state.mode ≡ mode_after s.mode (step s e).answer
mode_of s events.Cpu = by_task s (chosen s.table)
mode_of s events.Tick = by_mode s s.mode
mode_of s (events.Act lane a) = by_act s lane a

pub modes_are_kept : (p : Project) → ModesAreKept p
modes_are_kept p journal = each_stage p KeepsMode here journal
  where
    here : (s : State) (e : Event) → IsReached p s → KeepsMode (stage s e)
    here s e h =
        let x = (step s e).state in
        let known = known_at p x (reached_next p s e h) in
        record { mode = mode_of s e; down = down_in x.mode x.table.states known.orderly.in_run }
