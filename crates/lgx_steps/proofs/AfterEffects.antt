-- Effects of a scan's step.
use Rattle.std.proofs.Common.{◌≡◌, ℕ, ◌+◌, ◌<◌, ◌≤◌, Bool, true, false, length, set, Option, None, sym, ap, ◌∙◌, subst, if◌then◌else◌}
use Rattle.std.proofs.lemmas.Bool.{lt-ltb, le-ltb}
use Rattle.spec_scan.specs.declared.bound.Effect.{Effect}
use Rattle.spec_scan.specs.declared.bound.Effect.TheVariants as effect
use Rattle.spec_tables.specs.declared.fault.Fault.{Fault}
use Rattle.spec_tables.specs.Tasks.{finish, region_clear}
use Rattle.spec_machine.specs.declared.answer.Moment.{Moment}
use Rattle.spec_machine.specs.declared.answer.What.{What}
use Rattle.spec_machine.specs.declared.answer.What.TheVariants as what
use Rattle.spec_machine.specs.declared.answer.Mark.TheVariants as mark
use Rattle.spec_machine.specs.State.{State, progress_of, programs_of, dropped}
use Rattle.spec_machine.specs.Releases.{release_task}
use Rattle.spec_machine.specs.ProcessorStep.{after_effect, scan_ended}
use Rattle.lgx_steps.specs.declared.parts.Released.{Released}
use Rattle.lgx_steps.specs.PartsView.{PartsView}
use Rattle.lgx_steps.specs.Represents.{RepresentsState}
use Rattle.lgx_steps.specs.Gives.{ViewGives, ReleaseGives}
use Rattle.lgx_steps.proofs.States.{later}

pub by-effect : (k : ℕ) (v : PartsView) (m : Moment) (s : State) (t n : ℕ) (e e' : Effect) → e ≡ e' → ViewGives (k + 1) v m (after_effect s t (progress_of s t) n e') → ViewGives (k + 1) v m (after_effect s t (progress_of s t) n e)
by-effect k v m s t n e e' same g = subst (λ (x : Effect). ViewGives (k + 1) v m (after_effect s t (progress_of s t) n x)) (sym same) g

pub gives-triggered : (k : ℕ) (v : PartsView) (ran : What) (r : Released) (s : State) (t n other : ℕ) → ran ≡ what.Ran t n → ReleaseGives k v r (release_task other s) → ViewGives {A = Moment} (k + 1) v (record { what = ran; mark = mark.Trigger other; fault = r.fault }) (after_effect s t (progress_of s t) n (effect.Trigger other))
gives-triggered k v ran r s t n other e g = record {
  answers = ap (λ (w : What). record { what = w; mark = mark.Trigger other; fault = r.fault }) e ∙ ap (λ (x : Option Fault). record { what = what.Ran t n; mark = mark.Trigger other; fault = x }) g.fault;
  represents = later k v _ g.represents;
}

pub gives-left : (k : ℕ) (v : PartsView) (m : Moment) (s : State) (t n : ℕ) (b : Bool) → b ≡ true → m ≡ record { what = what.Left t n b; mark = mark.Plain; fault = None } → RepresentsState k v (scan_ended t (progress_of s t) s) → ViewGives (k + 1) v m (after_effect s t (progress_of s t) n (effect.Left b))
gives-left k v m s t n b e m_is r =
    let there : m ≡ record { what = what.Left t n true; mark = mark.Plain; fault = None } = m_is ∙ ap (λ (x : Bool). record { what = what.Left t n x; mark = mark.Plain; fault = None }) e in
    subst (λ (x : Bool). ViewGives (k + 1) v m (after_effect s t (progress_of s t) n (effect.Left x))) (sym e) (record { answers = there; represents = later k v _ r })

pub gives-stayed : (k : ℕ) (v : PartsView) (m : Moment) (s : State) (t n : ℕ) (b : Bool) → b ≡ false → m ≡ record { what = what.Left t n b; mark = mark.Plain; fault = None } → RepresentsState k v s → ViewGives (k + 1) v m (after_effect s t (progress_of s t) n (effect.Left b))
gives-stayed k v m s t n b e m_is r =
    let there : m ≡ record { what = what.Left t n false; mark = mark.Plain; fault = None } = m_is ∙ ap (λ (x : Bool). record { what = what.Left t n x; mark = mark.Plain; fault = None }) e in
    subst (λ (x : Bool). ViewGives (k + 1) v m (after_effect s t (progress_of s t) n (effect.Left x))) (sym e) (record { answers = there; represents = later k v _ r })

-- ---- a program scan has ended

abbrev ended_more : State → ℕ → State
ended_more s t = record s { table = region_clear t s.table; progress = set s.progress t (record (progress_of s t) { ended = (progress_of s t).ended + 1; scan = None }) }

abbrev ended_last : State → ℕ → State
ended_last s t = record s { table = finish t s.tick s.table; progress = set s.progress t (dropped (progress_of s t)) }

pub ended-more : (k : ℕ) (v : PartsView) (s : State) (t : ℕ) → (progress_of s t).ended + 1 < length (programs_of s t) → RepresentsState k v (record s { table = region_clear t s.table; progress = set s.progress t (record (progress_of s t) { ended = (progress_of s t).ended + 1; scan = None }) }) → RepresentsState k v (scan_ended t (progress_of s t) s)
ended-more k v s t more r = subst (λ (b : Bool). RepresentsState k v (if b then ended_more s t else ended_last s t)) (sym (lt-ltb _ _ more)) r

pub ended-last : (k : ℕ) (v : PartsView) (s : State) (t : ℕ) → length (programs_of s t) ≤ (progress_of s t).ended + 1 → RepresentsState k v (record s { table = finish t s.tick s.table; progress = set s.progress t (dropped (progress_of s t)) }) → RepresentsState k v (scan_ended t (progress_of s t) s)
ended-last k v s t last r = subst (λ (b : Bool). RepresentsState k v (if b then ended_more s t else ended_last s t)) (sym (le-ltb _ _ last)) r
