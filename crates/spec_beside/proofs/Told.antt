-- What a step tells of the instruction that acts, and what it leaves of the scans: by the step's effect.
use Rattle.std.proofs.Common.{◌≡◌, ℕ, ◌+◌, ◌<◌, ◌⊎◌, inl, inr, Bool, true, false, length, Option, None, refl, ◌∙◌, ap, subst, get_or-set_same, get_or-set_other}
use Rattle.std.specs.Prelude.{nat_eq, nat_lt, slice_set, slice_index_or}
use Rattle.std.proofs.lemmas.Bool.{cases_eq, cond_both}
use Rattle.lgx_rung.specs.declared.ins.Ins.{Ins}
use Rattle.spec_tables.specs.declared.task.Release.{Release}
use Rattle.spec_tables.specs.declared.task.Release.TheVariants.{Released, Overlap, Inhibited}
use Rattle.spec_tables.specs.Tasks.{release_answer}
use Rattle.spec_scan.specs.declared.bound.Effect.{Effect}
use Rattle.spec_scan.specs.declared.bound.Effect.TheVariants.{Ran, Up, Down, Trigger, CopyStart, Copied, Left, Minor, Major}
use Rattle.spec_machine.specs.declared.answer.Moment.{Moment}
use Rattle.spec_machine.specs.declared.answer.What.{What}
use Rattle.spec_machine.specs.declared.answer.What.TheVariants as what
use Rattle.spec_machine.specs.Machine.{OfStep}
use Rattle.spec_machine.specs.ProcessorStep.{after_effect}
use Rattle.spec_machine.specs.Releases.{after_answer}
use Rattle.spec_machine.specs.State.{State, Progress, no_progress, progress_of, programs_of, dropped, Answered}
use Rattle.spec_schedule.specs.Stages.{Stage}
use Rattle.spec_reach.proofs.Views.{dropped_view}
use Rattle.spec_reach.proofs.Changes.{TaskView}
use Rattle.spec_uses.specs.Changes.{next_of, executed_last}
use Rattle.spec_beside.proofs.WriterSteps.{doer, last_by, of_program}

-- ---- the instruction

-- the stage of a step, as far as it is read
abbrev pub step_stage : State → Answered Moment → Stage
step_stage s x = record { before = s; entry = OfStep x.answer; after = x.state }

-- the program and the instruction that act, as `acting` tells them of a step
abbrev pub acting_by : (next last : ℕ → Option Ins) → What → Option (ℕ × Ins)
acting_by next last (what.Ran t n) = of_program n (next t)
acting_by next last (what.Copied t n) = of_program n (last t)
acting_by next last _ = None

module _ (s s' : State) (t n : ℕ) (q : Progress) where
  abbrev after : Effect → Answered Moment
  after e = after_effect s' t q n e

  -- what is executed last in task k, where the step is t's
  abbrev Last : ℕ → Option Ins → Effect → Option Ins
  Last k last e = executed_last k last (step_stage s (after e))

  abbrev if_own : ℕ → Option Ins → Bool → Option Ins
  if_own k last own = elim own [ true ↦ next_of s k | false ↦ last ]

  ran_own : (k : ℕ) (last : Option Ins) → nat_eq t k ≡ true → if_own k last (nat_eq t k) ≡ next_of s k
  ran_own k last own = ap (if_own k last) own

  ran_other : (k : ℕ) (last : Option Ins) → nat_eq t k ≡ false → if_own k last (nat_eq t k) ≡ last
  ran_other k last other = ap (if_own k last) other

  pub told_own : (k : ℕ) (last : Option Ins) (e : Effect) → nat_eq t k ≡ true → executed_last k last (step_stage s (after e)) ≡ last_by e (next_of s k) last
  told_own k last Ran own = ran_own k last own
  told_own k last Up own = ran_own k last own
  told_own k last Down own = ran_own k last own
  told_own k last (Trigger other) own = ran_own k last own
  told_own k last (CopyStart sync) own = ran_own k last own
  told_own k last (Copied true sync) own = refl
  told_own k last (Copied false sync) own = refl
  told_own k last (Left true) own = refl
  told_own k last (Left false) own = refl
  told_own k last Minor own = ran_own k last own
  told_own k last (Major code) own = ran_own k last own

  pub told_other : (k : ℕ) (last : Option Ins) (e : Effect) → nat_eq t k ≡ false → executed_last k last (step_stage s (after e)) ≡ last
  told_other k last Ran other = ran_other k last other
  told_other k last Up other = ran_other k last other
  told_other k last Down other = ran_other k last other
  told_other k last (Trigger to) other = ran_other k last other
  told_other k last (CopyStart sync) other = ran_other k last other
  told_other k last (Copied true sync) other = refl
  told_other k last (Copied false sync) other = refl
  told_other k last (Left true) other = refl
  told_other k last (Left false) other = refl
  told_other k last Minor other = ran_other k last other
  told_other k last (Major code) other = ran_other k last other

  -- the one that acts
  pub told_acting : (next last : ℕ → Option Ins) (e : Effect) → acting_by next last (after e).answer.what ≡ of_program n (doer e (next t) (last t))
  told_acting next last Ran = refl
  told_acting next last Up = refl
  told_acting next last Down = refl
  told_acting next last (Trigger other) = refl
  told_acting next last (CopyStart sync) = refl
  told_acting next last (Copied true sync) = refl
  told_acting next last (Copied false sync) = refl
  told_acting next last (Left true) = refl
  told_acting next last (Left false) = refl
  told_acting next last Minor = refl
  told_acting next last (Major code) = refl

-- ---- the scan of the step's task

module _ (s : State) (t n : ℕ) (q : Progress) (within : t < length s.progress) (is : progress_of s t ≡ q) where
  -- it is dropped, or it is that of q
  abbrev pub EndsOrStays : State → Type 0
  EndsOrStays x = ((progress_of x t).scan ≡ None) ⊎ ((progress_of x t).scan ≡ q.scan)

  kept : EndsOrStays s
  kept = inr (ap (λ (r : Progress). r.scan) is)

  released_here : (a : Release) (other : ℕ) → (t ≡ other) ⊎ (t ≡ other → ⊥) → EndsOrStays (after_answer a other s).state
  released_here Overlap other d = kept
  released_here Inhibited other d = kept
  released_here Released other (inl e) =
      inl (subst (λ i. (slice_index_or (slice_set s.progress i (dropped (progress_of s i))) t no_progress).scan ≡ None) e (ap (λ (r : Progress). r.scan) (get_or-set_same s.progress t (dropped (progress_of s t)) no_progress within)))
  released_here Released other (inr ne) = inr (ap (λ (r : Progress). r.scan) (get_or-set_other s.progress other t (dropped (progress_of s other)) no_progress ne ∙ is))

  set_here : (r : Progress) → r.scan ≡ None → (slice_index_or (slice_set s.progress t r) t no_progress).scan ≡ None
  set_here r none = ap (λ (x : Progress). x.scan) (get_or-set_same s.progress t r no_progress within) ∙ none

  pub own_scan : (e : Effect) → EndsOrStays (after_effect s t q n e).state
  own_scan Ran = kept
  own_scan Up = kept
  own_scan Down = kept
  own_scan (Trigger other) = released_here (release_answer s.table other) other (cases_eq t other)
  own_scan (CopyStart sync) = kept
  own_scan (Copied true sync) = kept
  own_scan (Copied false sync) = kept
  own_scan (Left true) = cond_both (nat_lt (q.ended + 1) (length (programs_of s t))) _ _ EndsOrStays (λ more. inl (set_here _ refl)) (λ last. inl (set_here _ refl))
  own_scan (Left false) = kept
  own_scan Minor = kept
  own_scan (Major code) = inl (ap (λ (v : TaskView). v.scan) (dropped_view s.progress t))
