-- What is seen of a run keeps the law of modes.
use Rattle.std.proofs.Common.{◌≡◌, ℕ, ◌+◌, Bool, true, false, cond, List, [], ◌∷◌, length, Option, Some, None, refl, sym, ◌∙◌, ap, arith}
use Rattle.std.specs.Prelude.{not, ◌&&◌, nat_lt, is_some}
use Rattle.std.proofs.lemmas.Bool.{cond_both}
use Rattle.spec_tables.specs.declared.task.Release.{Release}
use Rattle.spec_tables.specs.declared.task.Release.TheVariants.{Released, Overlap, Inhibited}
use Rattle.spec_tables.specs.Tasks.{chosen, held, has_open_cps, release_answer}
use Rattle.spec_scan.specs.declared.bound.Effect.{Effect}
use Rattle.spec_scan.specs.declared.bound.Effect.TheVariants as effect
use Rattle.spec_scan.specs.Scan.{Advanced, advance}
use Rattle.spec_machine.specs.declared.answer.Moment.{Moment}
use Rattle.spec_machine.specs.declared.answer.What.{What}
use Rattle.spec_machine.specs.declared.answer.What.TheVariants as what
use Rattle.spec_machine.specs.declared.event.Action.{Action}
use Rattle.spec_machine.specs.declared.event.Action.TheVariants.{WordIn, WordOut, Accept, Test, Untest, Assemble, Cancel, ForceInstall, ForceEnable, ForceDisable, ForceRemove, ModeRun, ModeProgram, Clear}
use Rattle.spec_machine.specs.declared.event.Event.{Event}
use Rattle.spec_machine.specs.declared.event.Event.TheVariants as events
use Rattle.spec_machine.specs.declared.reply.Mode.{Mode}
use Rattle.spec_machine.specs.declared.reply.Mode.TheVariants as mode
use Rattle.spec_machine.specs.Actions.{held_or, mode_run_from, mode_program_from, clear_from, act}
use Rattle.spec_machine.specs.Machine.{after_step, after_action, step}
use Rattle.spec_machine.specs.ProcessorStep.{triggered, plainly, scan_ended, with_progress, after_effect, after_advance, scan_step, task_step, processor_step}
use Rattle.spec_machine.specs.Project.{Project}
use Rattle.spec_machine.specs.Releases.{after_answer}
use Rattle.spec_machine.specs.State.{State, Scan, Progress, progress_of, programs_of, start, Answered}
use Rattle.spec_machine.specs.Ticks.{tick}
use Rattle.spec_machine.specs.ValidProject.{IsValidProject}
use Rattle.spec_schedule.specs.declared.trace.TraceEvent.TheVariants as event
use Rattle.spec_schedule.specs.declared.trace.Verb.TheVariants as verb
use Rattle.spec_schedule.specs.Counting.{Counted, uncounted, Numbers, CountedEvent}
use Rattle.spec_schedule.specs.TraceView.{step_seen, seen, answer_of}
use Rattle.spec_reach.proofs.Reached.{known_at}
use Rattle.spec_legal.specs.LegalRuns.{counted_run}
use Rattle.spec_legal.proofs.Along.{place, IsPlace}
use Rattle.spec_laws.specs.CountedBack.{each_with_past}
use Rattle.spec_laws.specs.Modes.{KeepsMode}
use Rattle.spec_laws.proofs.Lawful.{runs_are_lawful}
use Rattle.lgx_laws.specs.Modes.{mode_shown, mode_after, holds, leads_from, is_answer, keeps_modes}
use Rattle.lgx_laws.proofs.AtStages.{stage, at_stage}
use Rattle.lgx_laws.proofs.ModesAt.{any_same}
use Rattle.lgx_laws.proofs.RunsBack.{all_of_run, no_counts, no_edits}

-- ---- the mode after a processor step

module _ (p : Project) where
  abbrev Steps : State → Answered Moment → Type 0
  Steps s x = x.state.mode ≡ mode_shown (seen p (after_step x).answer) s.mode

  by_answer : (s : State) (t n other : ℕ) (answer : Release) → Steps s (triggered (what.Ran t n) other (after_answer answer other s))
  by_answer s t n other Released = refl
  by_answer s t n other Overlap = refl
  by_answer s t n other Inhibited = refl

  by_end : (s : State) (t n : ℕ) (q : Progress) → Steps s (plainly (scan_ended t q s) (what.Left t n true))
  by_end s t n q =
      cond_both (nat_lt (q.ended + 1) (length (programs_of s t))) _ _ (λ (x : State). Steps s (plainly x (what.Left t n true))) (λ b. refl) (λ b. refl)

  by_effect : (s : State) (t : ℕ) (q : Progress) (n : ℕ) (e : Effect) → Steps s (after_effect s t q n e)
  by_effect s t q n effect.Ran = refl
  by_effect s t q n effect.Up = refl
  by_effect s t q n effect.Down = refl
  by_effect s t q n (effect.Trigger other) = by_answer s t n other (release_answer s.table other)
  by_effect s t q n (effect.CopyStart sync) = refl
  by_effect s t q n (effect.Copied true sync) = refl
  by_effect s t q n (effect.Copied false sync) = refl
  by_effect s t q n (effect.Left true) = by_end s t n q
  by_effect s t q n (effect.Left false) = refl
  by_effect s t q n effect.Minor = refl
  by_effect s t q n (effect.Major code) = refl

  by_scan : (s : State) (t : ℕ) (q : Progress) (o : Option Scan) → Steps s (scan_step s t q o)
  by_scan s t q None = refl
  by_scan s t q (Some scan) = go (advance scan.rungs scan.position s.image s.tick scan.first q.flags)
    where
      go : (a : Advanced) → Steps s (after_advance s t q scan a)
      go a =
          let q' : Progress = record { ended = q.ended; scan = Some (record scan { position = a.position }); flags = a.flags } in
          by_effect (record (with_progress t q' s) { image = a.image }) t q' scan.program a.effect

  by_task : (s : State) (o : Option ℕ) → Steps s (task_step s o)
  by_task s None = refl
  by_task s (Some t) = by_scan s t (progress_of s t) (progress_of s t).scan

  -- ---- after a tick and an action

  by_watchdog : (m : Mode) (r o : ℕ) (w : Option ℕ) → cond (is_some w) mode.Faulted m ≡ mode_shown (event.Tick r o w) m
  by_watchdog m r o None = refl
  by_watchdog m r o (Some t) = refl

  abbrev Acts : State → ℕ → Action → Type 0
  Acts s lane a = (act s lane a).state.mode ≡ mode_shown (seen p (after_action lane a (act s lane a)).answer) s.mode

  by_run : (s : State) (lane : ℕ) (b : Bool) (m : Mode) → (held_or b s (mode_run_from m s)).state.mode ≡ mode_shown (event.Act lane verb.Run None (answer_of (held_or b s (mode_run_from m s)).answer.reply) (held_or b s (mode_run_from m s)).answer.released) s.mode
  by_run s lane true m = refl
  by_run s lane false mode.Program = refl
  by_run s lane false mode.Run = refl
  by_run s lane false mode.Faulted = refl

  by_program : (s : State) (lane : ℕ) (b : Bool) (m : Mode) → (held_or b s (mode_program_from m s)).state.mode ≡ mode_shown (event.Act lane verb.Program None (answer_of (held_or b s (mode_program_from m s)).answer.reply) (held_or b s (mode_program_from m s)).answer.released) s.mode
  by_program s lane true m = refl
  by_program s lane false mode.Program = refl
  by_program s lane false mode.Run = refl
  by_program s lane false mode.Faulted = refl

  by_clear : (s : State) (lane : ℕ) (b : Bool) (m : Mode) → (held_or b s (clear_from m s)).state.mode ≡ mode_shown (event.Act lane verb.Clear None (answer_of (held_or b s (clear_from m s)).answer.reply) (held_or b s (clear_from m s)).answer.released) s.mode
  by_clear s lane true m = refl
  by_clear s lane false mode.Program = refl
  by_clear s lane false mode.Run = refl
  by_clear s lane false mode.Faulted = refl

  by_act : (s : State) (lane : ℕ) (a : Action) → KeepsMode (stage s (events.Act lane a)) → Acts s lane a
  by_act s lane (WordIn name word v) h = h.mode
  by_act s lane (WordOut name word) h = h.mode
  by_act s lane (Accept c) h = h.mode
  by_act s lane (Test n) h = h.mode
  by_act s lane (Untest n) h = h.mode
  by_act s lane (Assemble n) h = h.mode
  by_act s lane (Cancel n) h = h.mode
  by_act s lane (ForceInstall name word mask v) h = h.mode
  by_act s lane ForceEnable h = h.mode
  by_act s lane ForceDisable h = h.mode
  by_act s lane ForceRemove h = h.mode
  by_act s lane ModeRun h = by_run s lane (held s.table) s.mode
  by_act s lane ModeProgram h = by_program s lane (held s.table) s.mode
  by_act s lane Clear h = by_clear s lane (held s.table) s.mode

  by_event : (s : State) (e : Event) → KeepsMode (stage s e) → (step s e).state.mode ≡ mode_shown (seen p (step s e).answer) s.mode
  by_event s events.Cpu h = by_task s (chosen s.table)
  by_event s events.Tick h = let r = (tick s).answer in h.mode ∙ by_watchdog s.mode r.released r.overlapped r.watchdog
  by_event s (events.Act lane a) h = by_act s lane a h

-- ---- an open CPS

module _ (p : Project) (valid : IsValidProject p) where
  abbrev pub HasMode : State → List Counted → List Numbers → List CountedEvent → Type 0
  HasMode s cs ns past = mode_after past ≡ s.mode

  pub mode_next : (s : State) (e : Event) (cs : List Counted) (ns : List Numbers) (past : List CountedEvent) → IsPlace p s cs → HasMode s cs ns past → mode_after (place p s cs ns e ∷ past) ≡ (step s e).state.mode
  mode_next s e cs ns past h k = ap (mode_shown (seen p (step s e).answer)) k ∙ sym (by_event p s e (at_stage KeepsMode p (runs_are_lawful p valid).modes s e h.reached))

  pub first_mode : (cs : List Counted) (ns : List Numbers) → HasMode (start p) cs ns []
  first_mode cs ns = refl

  module _ (s : State) (cs : List Counted) (ns : List Numbers) (past : List CountedEvent) (h : IsPlace p s cs) where
    pub same_held : holds cs ≡ held s.table
    same_held =
        any_same (λ (c : Counted). c.cps_open) has_open_cps cs s.table.states uncounted None
        (let m = h.mirrors.many in let n = (known_at p s h.reached).sizes.states in omega arith) (λ t l. (h.mirrors.shows t (let m = h.mirrors.many in omega arith)).cps)

    module _ (k : HasMode s cs ns past) (lane : ℕ) where
      run_answer : (b : Bool) (m : Mode) → is_answer (leads_from verb.Run m && not b) (answer_of (held_or b s (mode_run_from m s)).answer.reply) ≡ true
      run_answer true mode.Program = refl
      run_answer true mode.Run = refl
      run_answer true mode.Faulted = refl
      run_answer false mode.Program = refl
      run_answer false mode.Run = refl
      run_answer false mode.Faulted = refl

      program_answer : (b : Bool) (m : Mode) → is_answer (leads_from verb.Program m && not b) (answer_of (held_or b s (mode_program_from m s)).answer.reply) ≡ true
      program_answer true mode.Program = refl
      program_answer true mode.Run = refl
      program_answer true mode.Faulted = refl
      program_answer false mode.Program = refl
      program_answer false mode.Run = refl
      program_answer false mode.Faulted = refl

      clear_answer : (b : Bool) (m : Mode) → is_answer (leads_from verb.Clear m && not b) (answer_of (held_or b s (clear_from m s)).answer.reply) ≡ true
      clear_answer true mode.Program = refl
      clear_answer true mode.Run = refl
      clear_answer true mode.Faulted = refl
      clear_answer false mode.Program = refl
      clear_answer false mode.Run = refl
      clear_answer false mode.Faulted = refl

      action_keeps : (a : Action) → keeps_modes past (place p s cs ns (events.Act lane a)) ≡ true
      action_keeps (WordIn name word v) = refl
      action_keeps (WordOut name word) = refl
      action_keeps (Accept c) = refl
      action_keeps (Test n) = refl
      action_keeps (Untest n) = refl
      action_keeps (Assemble n) = refl
      action_keeps (Cancel n) = refl
      action_keeps (ForceInstall name word mask v) = refl
      action_keeps ForceEnable = refl
      action_keeps ForceDisable = refl
      action_keeps ForceRemove = refl
      action_keeps ModeRun =
          ap (λ m. is_answer (leads_from verb.Run m && not (holds cs)) (answer_of (act s lane ModeRun).answer.reply)) k
          ∙ (ap (λ b. is_answer (leads_from verb.Run s.mode && not b) (answer_of (act s lane ModeRun).answer.reply)) same_held ∙ run_answer (held s.table) s.mode)
      action_keeps ModeProgram =
          ap (λ m. is_answer (leads_from verb.Program m && not (holds cs)) (answer_of (act s lane ModeProgram).answer.reply)) k
          ∙ (ap (λ b. is_answer (leads_from verb.Program s.mode && not b) (answer_of (act s lane ModeProgram).answer.reply)) same_held ∙ program_answer (held s.table) s.mode)
      action_keeps Clear =
          ap (λ m. is_answer (leads_from verb.Clear m && not (holds cs)) (answer_of (act s lane Clear).answer.reply)) k
          ∙ (ap (λ b. is_answer (leads_from verb.Clear s.mode && not b) (answer_of (act s lane Clear).answer.reply)) same_held ∙ clear_answer (held s.table) s.mode)

    -- nothing is asked of a processor step
    step_keeps : (m : Moment) (w : What) → keeps_modes past (record { tasks = cs; programs = ns; event = step_seen m w }) ≡ true
    step_keeps m what.Idle = refl
    step_keeps m (what.Began t n v) = refl
    step_keeps m (what.Ran t n) = refl
    step_keeps m (what.Copied t n) = refl
    step_keeps m (what.Left t n ended) = refl

    keeps_here : HasMode s cs ns past → (e : Event) → keeps_modes past (place p s cs ns e) ≡ true
    keeps_here k events.Cpu = step_keeps (processor_step s).answer (processor_step s).answer.what
    keeps_here k events.Tick = refl
    keeps_here k (events.Act lane a) = action_keeps k lane a

  pub runs_keep_modes : (journal : List Event) → each_with_past keeps_modes [] (counted_run p journal) ≡ true
  runs_keep_modes journal = all_of_run p valid HasMode keeps_modes mode_next (λ s e cs ns past h k. keeps_here s cs ns past h k e) (first_mode (no_counts p) (no_edits p)) journal
