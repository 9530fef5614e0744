-- What happens to each task at a processor step.
use Rattle.std.proofs.Common.{◌≡◌, ℕ, ◌+◌, ◌<◌, Bool, true, false, length, Option, Some, None, ◌⊎◌, inl, inr, refl, sym, ◌∙◌, ap, subst, arith}
use Rattle.std.specs.Prelude.{nat_lt, slice_set, if◌then◌else◌}
use Rattle.std.proofs.lemmas.Bool.{cond_both, cases_eq, ltb-true}
use Rattle.spec_tables.specs.declared.task.Release.{Release}
use Rattle.spec_tables.specs.declared.task.Release.TheVariants.{Released, Overlap, Inhibited}
use Rattle.spec_tables.specs.Tasks.{state_of, task, release_answer, chosen, has_open_cps, is_continuous, release_some}
use Rattle.spec_scan.specs.declared.bound.Copying.{Copying}
use Rattle.spec_scan.specs.declared.bound.Effect.{Effect}
use Rattle.spec_scan.specs.declared.bound.Effect.TheVariants.{Ran, Up, Down, Trigger, CopyStart, Copied, Left, Minor, Major}
use Rattle.spec_scan.specs.Scan.{Advanced, advance}
use Rattle.spec_machine.specs.declared.answer.Moment.{Moment}
use Rattle.spec_machine.specs.declared.event.Event.TheVariants.{Cpu, Tick}
use Rattle.spec_machine.specs.declared.answer.What.TheVariants as what
use Rattle.spec_machine.specs.Project.{Project}
use Rattle.spec_machine.specs.State.{State, Scan, Progress, dropped, progress_of, programs_of, Answered}
use Rattle.spec_machine.specs.ProcessorStep.{plainly, scan_ended, with_progress, with_table, after_effect, begin_program, scan_step, task_step, new_scan, next_program}
use Rattle.spec_schedule.specs.declared.trace.TraceMark.{TraceMark}
use Rattle.spec_schedule.specs.declared.trace.TraceMark.TheVariants as mark
use Rattle.spec_reach.specs.Scans.{is_syncing, syncs}
use Rattle.spec_reach.proofs.Changes.{view_of, IsSound, Change, Stays, GoesDown, ComesUp, Restarts, Begins, Goes, Ends, CopyGoes, IsStepOf, TakesTurn, Makes, Happens, Known}
use Rattle.spec_reach.proofs.Advances.{EffectCopies, step_copies}
use Rattle.spec_reach.proofs.Views.{own_progress, same_number, released_down, IsChosen, chosen_known}
use Rattle.spec_reach.proofs.StepChanges.{Made, gone_on, moved, own_ran, own_up, own_down, own_start, own_last, own_copied, own_left, own_minor, own_major, own_trigger, own_next, own_finish}
use Rattle.spec_reach.proofs.OtherChanges.{IsAnother, by_trigger_of, apart_trigger, here_trigger, end_other, other_ran, other_up, other_down, other_start, other_last, other_copied, other_left, other_minor, other_major, other_begin}

-- what a step makes of task k, and that a step of the state makes it
pub record StepMakes (p : Project) (s : State) (x : Answered Moment) (k : ℕ) : Type 0 where
  pub change : Change
  pub makes : Makes s Cpu k change
  pub made : Made p s x k change

no_turn : (s : State) (k : ℕ) → TakesTurn s Cpu k → ⊥
no_turn s k h = let f : Cpu ≡ Tick → ⊥ = λ e. cc in f h.tick

stays : (p : Project) (s : State) (x : Answered Moment) (k : ℕ) → Made p s x k Stays → StepMakes p s x k
stays p s x k m = record { change = Stays; makes = no_turn s k; made = m }

-- ---- the task of the step

module _ (p : Project) (s : State) (t : ℕ) (h : IsChosen p s t) (scan : Scan) (a : Advanced) (was : (progress_of s t).scan ≡ Some scan) (sound : IsSound (view_of s t)) (goes_on : a.position ≡ (advance scan.rungs scan.position s.image s.tick scan.first (progress_of s t).flags).position) where
  abbrev q : Progress
  q = progress_of s t

  abbrev scan' : Scan
  scan' = record scan { position = a.position }

  abbrev after : Effect → Answered Moment
  after e = after_effect (moved s t q scan a) t (gone_on q scan a) scan.program e

  is_step : IsStepOf s Cpu t
  is_step = record { step = refl; chosen = h.is }

  goes : (m : TraceMark) (x : Answered Moment) → CopyGoes m scan.position.copy a.position.copy → Made p s x t (Goes m scan') → StepMakes p s x t
  goes m x copy m' = record { change = Goes m scan'; makes = (is_step, record { before = scan; was = was; goes = ap (λ x. record scan { position = x }) goes_on; program = refl; rungs = refl; copy = copy }); made = m' }

  -- no copy before and after
  none_goes : (x : Answered Moment) (b n : Option Copying) → (b ≡ None) × (n ≡ None) → is_syncing n ≡ is_syncing b
  none_goes x b n e = ap is_syncing (e.1 ∙ sym e.0)

  plain : (m : TraceMark) (e : Effect) → CopyGoes m scan.position.copy a.position.copy → Made p s (after e) t (Goes m scan') → StepMakes p s (after e) t
  plain m e copy m' = goes m (after e) copy m'

  -- the flag of the table, by the copy in progress
  flag : (b : Bool) → is_syncing scan.position.copy ≡ b → has_open_cps (state_of s.table t) ≡ b
  flag b e = sound.agrees ∙ (ap syncs was ∙ e)

  by_start : (sync : Bool) → EffectCopies scan.position.copy (CopyStart sync) a.position.copy → StepMakes p s (after (CopyStart sync)) t
  by_start true e = plain mark.Sync (CopyStart true) e (own_start p s t h scan a true (flag false (ap is_syncing e.0)))
  by_start false e = plain mark.Copy (CopyStart false) (e.1 ∙ sym (ap is_syncing e.0)) (own_start p s t h scan a false (flag false (ap is_syncing e.0)))

  by_last : (sync : Bool) → EffectCopies scan.position.copy (Copied true sync) a.position.copy → StepMakes p s (after (Copied true sync)) t
  by_last true e = plain mark.SyncEnd (Copied true true) e (own_last p s t h scan a true (flag true e.0))
  by_last false e = plain mark.CopyEnd (Copied true false) (e.1 ∙ sym e.0) (own_last p s t h scan a false (flag false e.0))

  abbrev many : ℕ
  many = length (programs_of s t)

  -- the task goes down with its last program, and comes up again if it is continuous
  abbrev finished_by : Bool → Answered Moment
  finished_by b = plainly (with_progress t (dropped (gone_on q scan a)) (with_table (release_some (if b then Some t else None) s.tick (record s.table { states = slice_set s.table.states t None })) (moved s t q scan a))) (what.Left t scan.program true)

  finishes : (b : Bool) → Made p s (finished_by b) t (if b then Restarts s.tick s.table.next else GoesDown) → StepMakes p s (finished_by b) t
  finishes true m = record { change = Restarts s.tick s.table.next; makes = (is_step, record { start = refl; rank = omega arith }); made = m }
  finishes false m = record { change = GoesDown; makes = tt; made = m }

  by_finish : (b : Bool) → is_continuous (task s.table t).kind ≡ b → nat_lt (q.ended + 1) many ≡ false → StepMakes p s (finished_by (is_continuous (task s.table t).kind)) t
  by_finish b kind more = subst (λ (c : Bool). StepMakes p s (finished_by c) t) (sym kind) (finishes b (own_finish p s t h scan a b kind more))

  by_end : EffectCopies scan.position.copy (Left true) a.position.copy → StepMakes p s (plainly (scan_ended t (gone_on q scan a) (moved s t q scan a)) (what.Left t scan.program true)) t
  by_end copies =
      cond_both (nat_lt (q.ended + 1) many) _ _ (λ (x : State). StepMakes p s (plainly x (what.Left t scan.program true)) t)
      (λ more. record { change = Ends; makes = (is_step, ltb-true (q.ended + 1) many more, flag false (ap is_syncing copies.0)); made = own_next p s t h scan a more })
      (λ more. by_finish (is_continuous (task s.table t).kind) refl more)

  pub by_effect : (e : Effect) → EffectCopies scan.position.copy e a.position.copy → StepMakes p s (after e) t
  by_effect Ran c = plain mark.Plain Ran (none_goes (after Ran) _ _ c) (own_ran p s t h scan a)
  by_effect Up c = plain mark.Up Up (none_goes (after Up) _ _ c) (own_up p s t h scan a)
  by_effect Down c = plain mark.Down Down (none_goes (after Down) _ _ c) (own_down p s t h scan a)
  by_effect (Trigger other) c = plain (mark.Trigger other) (Trigger other) (none_goes (after (Trigger other)) _ _ c) (own_trigger p s t h scan a other (release_answer s.table other) refl)
  by_effect (CopyStart sync) c = by_start sync c
  by_effect (Copied true sync) c = by_last sync c
  by_effect (Copied false sync) c = plain mark.Plain (Copied false sync) c (own_copied p s t h scan a sync)
  by_effect (Left true) c = by_end c
  by_effect (Left false) c = plain mark.Plain (Left false) (none_goes (after (Left false)) _ _ c) (own_left p s t h scan a)
  by_effect Minor c = plain mark.Plain Minor (none_goes (after Minor) _ _ c) (own_minor p s t h scan a)
  by_effect (Major code) c = record { change = GoesDown; makes = tt; made = own_major p s t h scan a code }

-- ---- another task

module _ (p : Project) (s : State) (t k : ℕ) (h : IsAnother s t k) (scan : Scan) (a : Advanced) where
  abbrev after_other : Effect → Answered Moment
  after_other e = after_effect (moved s t (progress_of s t) scan a) t (gone_on (progress_of s t) scan a) scan.program e

  here : (answer : Release) → release_answer s.table k ≡ answer → StepMakes p s (by_trigger_of p s t k h scan a k answer) k
  here Released r = record { change = ComesUp s.tick s.table.next; makes = (released_down s.table k r, record { start = refl; rank = omega arith }); made = here_trigger p s t k h scan a Released r }
  here Overlap r = stays p s _ k (here_trigger p s t k h scan a Overlap r)
  here Inhibited r = stays p s _ k (here_trigger p s t k h scan a Inhibited r)

  by_trigger : (other : ℕ) → (k ≡ other) ⊎ (k ≡ other → ⊥) → StepMakes p s (after_other (Trigger other)) k
  by_trigger other (inl e) = subst (λ (o : ℕ). StepMakes p s (after_other (Trigger o)) k) e (here (release_answer s.table k) refl)
  by_trigger other (inr ne) = stays p s _ k (apart_trigger p s t k h scan a other (release_answer s.table other) ne)

  pub by_other : (e : Effect) → StepMakes p s (after_other e) k
  by_other Ran = stays p s _ k (other_ran p s t k h scan a)
  by_other Up = stays p s _ k (other_up p s t k h scan a)
  by_other Down = stays p s _ k (other_down p s t k h scan a)
  by_other (Trigger other) = by_trigger other (cases_eq k other)
  by_other (CopyStart sync) = stays p s _ k (other_start p s t k h scan a sync)
  by_other (Copied true sync) = stays p s _ k (other_last p s t k h scan a sync)
  by_other (Copied false sync) = stays p s _ k (other_copied p s t k h scan a sync)
  by_other (Left true) = stays p s _ k (end_other p s t k h scan a)
  by_other (Left false) = stays p s _ k (other_left p s t k h scan a)
  by_other Minor = stays p s _ k (other_minor p s t k h scan a)
  by_other (Major code) = record { change = GoesDown; makes = tt; made = other_major p s t k h scan a code }

-- ---- the step

module _ (p : Project) (s : State) (known : Known p s) (k : ℕ) (within : k < length p.tasks) where
  other_of : (t : ℕ) → (k ≡ t → ⊥) → IsAnother s t k
  other_of t ne = record { differs = ne; in_states = (let e = known.sizes.states in omega arith); in_progress = (let e = known.sizes.progresses in omega arith) }

  own_begin : (t : ℕ) (h : IsChosen p s t) → (progress_of s t).scan ≡ None → StepMakes p s (begin_program s t (progress_of s t) (next_program s t (progress_of s t))) t
  own_begin t h none =
      let n = next_program s t (progress_of s t) in
      record {
        change = Begins (new_scan s n);
        makes = (record { step = refl; chosen = h.is }, none, refl);
        made = record {
          view = own_progress (state_of s.table t) s.progress t _ h.in_progress;
          counts = λ c w. same_number t _ c;
          begun = λ books b. same_number t _ b;
          starts = refl;
          ends = refl;
        };
      }

  own_scan : (t : ℕ) (h : IsChosen p s t) (o : Option Scan) → (progress_of s t).scan ≡ o → StepMakes p s (scan_step s t (progress_of s t) o) t
  own_scan t h None e = own_begin t h e
  own_scan t h (Some scan) e =
      let q = progress_of s t in
      let a = advance scan.rungs scan.position s.image s.tick scan.first q.flags in
      by_effect p s t h scan a e (known.sound t) refl a.effect (step_copies scan.rungs scan.position s.image s.tick scan.first q.flags)

  other_scan : (t : ℕ) → (k ≡ t → ⊥) → (o : Option Scan) → StepMakes p s (scan_step s t (progress_of s t) o) k
  other_scan t ne None = stays p s _ k (other_begin p s t k _ (progress_of s t) ne)
  other_scan t ne (Some scan) =
      let q = progress_of s t in
      let a = advance scan.rungs scan.position s.image s.tick scan.first q.flags in
      by_other p s t k (other_of t ne) scan a a.effect

  by_chosen : (t : ℕ) → chosen s.table ≡ Some t → (k ≡ t) ⊎ (k ≡ t → ⊥) → StepMakes p s (task_step s (Some t)) k
  by_chosen t c (inl e) = subst (λ (i : ℕ). StepMakes p s (task_step s (Some t)) i) (sym e) (own_scan t (chosen_known p s t known c) (progress_of s t).scan refl)
  by_chosen t c (inr ne) = other_scan t ne (progress_of s t).scan

  by_task : (o : Option ℕ) → chosen s.table ≡ o → StepMakes p s (task_step s o) k
  by_task None c = stays p s _ k (record { view = refl; counts = λ c w. refl; begun = λ books b. refl; starts = refl; ends = refl })
  by_task (Some t) c = by_chosen t c (cases_eq k t)

  pub at_step : Happens p s Cpu k
  at_step =
      let m = by_task (chosen s.table) refl in
      record { change = m.change; makes = m.makes; view = m.made.view; counts = m.made.counts; begun = m.made.begun; starts = m.made.starts; ends = m.made.ends }
