-- A task's scan among the parts, and what a task's step does on the way to the machine's.
use Rattle.std.proofs.Common.{◌≡◌, ℕ, ◌+◌, ◌<◌, List, length, get_or, set, Option, Some, None, refl, sym, ap, ◌∙◌, subst, length-set}
use Rattle.std.proofs.lemmas.List.{set-get_or}
use Rattle.spec_language.specs.Declarations.{bytes}
use Rattle.spec_machine.specs.declared.answer.Moment.{Moment}
use Rattle.spec_machine.specs.State.{State, Scan, Progress, progress_of, programs_of}
use Rattle.spec_machine.specs.ProcessorStep.{task_step, scan_step, begin_program, next_program, processor_step}
use Rattle.spec_tables.specs.Tasks.{chosen}
use Rattle.lgx_image.specs.Grains.{ImageView}
use Rattle.lgx_edit.specs.EditsView.{holds}
use Rattle.lgx_steps.specs.declared.parts.Progress.{Progress as KeptProgress}
use Rattle.lgx_steps.specs.PartsView.{PartsView}
use Rattle.lgx_steps.specs.Represents.{RepresentsState, RepresentsTask}
use Rattle.lgx_steps.specs.Gives.{ViewGives}
use Rattle.lgx_steps.proofs.Tasks.{same_elsewhere, tasks-set}
use Rattle.lgx_steps.proofs.Reading.{in-plan, task-at, task-read}
use Rattle.lgx_steps.proofs.States.{with-progress, with-image}

module _ (n : ℕ) (v : PartsView) (s : State) (h : RepresentsState n v s) (t : ℕ) (l : t < length v.progress) (old x d : KeptProgress) (i : ImageView) (read : old ≡ get_or v.progress t d) (long : length i.bytes ≡ length v.image.bytes) where
  pub image-long : length v.image.bytes ≡ bytes s.plan.tags
  image-long = ap (λ (b : List ℕ). length b) h.image ∙ h.sane.image

  -- the task as the scan's step sees it
  pub task-here : RepresentsTask (holds v.book) (length v.image.bytes) (length s.plan.schedule) (programs_of s t) old (progress_of s t)
  task-here = subst (λ k. RepresentsTask (holds v.book) k (length s.plan.schedule) (programs_of s t) old (progress_of s t)) (sym image-long) (task-read n v s h t l old d read)

  pub moved-to : (p : Progress) (image : List ℕ) → RepresentsTask (holds v.book) (length i.bytes) (length s.plan.schedule) (programs_of s t) x p → i.bytes ≡ image → RepresentsState n (record v { progress = set v.progress t x; image = i }) (record s { progress = set s.progress t p; image = image })
  moved-to p image new is =
      let len = bytes s.plan.tags in
      let r : RepresentsTask (holds v.book) len (length s.plan.schedule) (programs_of s t) x p = subst (λ k. RepresentsTask (holds v.book) k (length s.plan.schedule) (programs_of s t) x p) (long ∙ image-long) new in
      let a = with-progress n v s h (set v.progress t x) (set s.progress t p) v.book (length-set v.progress t x) (length-set s.progress t p) refl
      (tasks-set (holds v.book) (holds v.book) len s.plan.schedule v.progress s.progress t (progress_of s t).ended x p h.tasks h.sane.plan.once h.progresses h.sane.progresses (in-plan n v s h t l) (task-at n v s h t l).left (same_elsewhere (holds v.book) _) r) in
      with-image n (record v { progress = set v.progress t x }) (record s { progress = set s.progress t p }) a i image is (ap (λ (b : List ℕ). length b) (sym is) ∙ (long ∙ ap (λ (b : List ℕ). length b) h.image))

  -- without a scan nothing changes
  pub stayed : x ≡ old → i.bytes ≡ v.image.bytes → RepresentsState n (record v { progress = set v.progress t x; image = i }) s
  stayed same image =
      let e : set v.progress t x ≡ v.progress = ap (λ y. set v.progress t y) (same ∙ read) ∙ set-get_or v.progress t d in
      let r : RepresentsState n (record v { image = i }) s = with-image n v s h i s.image (image ∙ h.image) refl in
      subst (λ (ps : List KeptProgress). RepresentsState n (record v { progress = ps; image = i }) s) (sym e) r

-- ---- from a task's step to the machine's

pub gives-chosen : (n : ℕ) (v : PartsView) (m : Moment) (s : State) (o : Option ℕ) → o ≡ chosen s.table → ViewGives n v m (task_step s o) → ViewGives n v m (processor_step s)
gives-chosen n v m s o e g = subst (λ (x : Option ℕ). ViewGives n v m (task_step s x)) e g

pub gives-begun : (n : ℕ) (v : PartsView) (m : Moment) (s : State) (t : ℕ) → (progress_of s t).scan ≡ None → ViewGives (n + 1) v m (begin_program s t (progress_of s t) (next_program s t (progress_of s t))) → ViewGives (n + 1) v m (task_step s (Some t))
gives-begun n v m s t e g = subst (λ (o : Option Scan). ViewGives (n + 1) v m (scan_step s t (progress_of s t) o)) (sym e) g
