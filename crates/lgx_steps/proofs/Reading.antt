-- What is known of a task of the parts: its progress, its list of programs, and the program that is next.
use Rattle.std.proofs.Common.{◌≡◌, ℕ, ◌<◌, List, [], length, get_or, Option, Some, None, sym, ap, ◌∙◌, subst, arith}
use Rattle.std.specs.Prelude.{slice_index, IfSome}
use Rattle.spec_base.specs.declared.limits.TheConstants.{MAX_TASKS}
use Rattle.std.proofs.lemmas.List.{get_or_default, length-map}
use Rattle.spec_language.specs.Declarations.{bytes}
use Rattle.spec_tables.specs.declared.task.TaskDef.{TaskDef}
use Rattle.spec_machine.specs.Edits.{Book}
use Rattle.spec_machine.specs.State.{State, Plan, progress_of, programs_of}
use Rattle.spec_machine.specs.ProcessorStep.{next_program}
use Rattle.lgx_edit.specs.EditsView.{EditsView, holds}
use Rattle.lgx_steps.specs.declared.parts.Scan.{Scan as KeptScan}
use Rattle.lgx_steps.specs.declared.parts.Progress.{Progress as KeptProgress}
use Rattle.lgx_steps.specs.PartsView.{PartsView, idle}
use Rattle.lgx_steps.specs.Plans.{IsList, list_at}
use Rattle.lgx_steps.specs.Represents.{RepresentsState, RepresentsTask, progress_at}
use Rattle.lgx_steps.proofs.Tasks.{scan-program}

module _ (n : ℕ) (v : PartsView) (s : State) (h : RepresentsState n v s) where
  pub many-tasks : length v.table.defs ≡ length v.progress
  many-tasks = ap (λ (ds : List TaskDef). length ds) h.table.defs ∙ (h.sane.tasks ∙ sym h.progresses)

  pub many-lists : length v.plan.schedule ≡ length v.progress
  many-lists = ap (λ (p : Plan). length p.schedule) h.plan ∙ sym h.progresses

  pub many-books : length v.book ≡ s.plan.tags.programs
  many-books = sym (length-map v.book (λ (e : EditsView). e.book)) ∙ (ap (λ (bs : List Book). length bs) h.books ∙ h.sane.programs)

  pub many-firsts : length v.firsts ≡ s.plan.tags.programs
  many-firsts = ap length h.firsts ∙ h.sane.firsts

  pub list-is : (t : ℕ) → list_at v.plan.schedule t ≡ programs_of s t
  list-is t = ap (λ (p : Plan). list_at p.schedule t) h.plan

  -- a task of the table is one of few
  pub few-known : (o : Option ℕ) → IfSome o (λ t. t < length v.table.defs) → IfSome o (λ t. t < MAX_TASKS)
  few-known None l = tt
  few-known (Some t) l = let e : length v.table.defs ≡ length s.plan.schedule = many-tasks ∙ h.progresses in let f = h.sane.plan.few in omega arith

  module _ (t : ℕ) (l : t < length v.progress) where
    pub in-plan : t < length s.plan.schedule
    in-plan = subst (λ k. t < k) h.progresses l

    pub in-lists : t < length v.plan.schedule
    in-lists = subst (λ k. t < k) (sym many-lists) l

    pub in-table : t < length v.table.defs
    in-table = subst (λ k. t < k) (sym many-tasks) l

    pub list-sound : IsList s.plan.tags.programs (programs_of s t)
    list-sound = h.sane.plan.lists t in-plan

    pub task-at : RepresentsTask (holds v.book) (bytes s.plan.tags) (length s.plan.schedule) (programs_of s t) (progress_at v.progress t) (progress_of s t)
    task-at = h.tasks t in-plan

    -- the same of the progress as it is read
    pub read-at : (x d : KeptProgress) → x ≡ get_or v.progress t d → x ≡ progress_at v.progress t
    read-at x d e = e ∙ get_or_default v.progress t d idle l

    pub task-read : (x d : KeptProgress) → x ≡ get_or v.progress t d → RepresentsTask (holds v.book) (bytes s.plan.tags) (length s.plan.schedule) (programs_of s t) x (progress_of s t)
    task-read x d e = subst (λ (y : KeptProgress). RepresentsTask (holds v.book) (bytes s.plan.tags) (length s.plan.schedule) (programs_of s t) y (progress_of s t)) (sym (read-at x d e)) task-at

    -- the program that is next is one of the programs
    pub next-known : next_program s t (progress_of s t) < length v.book
    next-known = subst (λ k. next_program s t (progress_of s t) < k) (sym many-books) (list-sound.known (progress_of s t).ended task-at.left)

    pub scan-known : (x d : KeptProgress) (k : KeptScan) → x ≡ get_or v.progress t d → x.scan ≡ Some k → k.program < length v.book
    scan-known x d k e is =
        let p : k.program ≡ slice_index (programs_of s t) (progress_of s t).ended = scan-program (bytes s.plan.tags) (length s.plan.schedule) (holds v.book) (programs_of s t) x (progress_of s t) k (task-read x d e) is in
        subst (λ i. i < length v.book) (sym p) next-known

    -- the list of its programs as it is read
    pub list-read : (slice : List (List ℕ)) (ns ns' : List ℕ) → slice ≡ v.plan.schedule → ns ≡ get_or slice t ns → ns' ≡ ns → ns' ≡ programs_of s t
    list-read slice ns ns' is at same = same ∙ (at ∙ (ap (λ (xs : List (List ℕ)). get_or xs t ns) is ∙ (get_or_default v.plan.schedule t ns [] in-lists ∙ list-is t)))

    -- how many of its programs ended
    pub ended-read : (x d : KeptProgress) → x ≡ get_or v.progress t d → x.ended ≡ (progress_of s t).ended
    ended-read x d e = (task-read x d e).ended

    -- the program that is next as it is read
    pub next-read : (x d : KeptProgress) (ns : List ℕ) → x ≡ get_or v.progress t d → ns ≡ programs_of s t → get_or ns x.ended 0 ≡ next_program s t (progress_of s t)
    next-read x d ns e is = ap (λ (ms : List ℕ). get_or ms x.ended 0) is ∙ ap (λ i. get_or (programs_of s t) i 0) (ended-read x d e)

    -- some of the task's programs is there
    pub list-some : 0 < length (list_at v.plan.schedule t)
    list-some = subst (λ (ns : List ℕ). 0 < length ns) (sym (list-is t)) list-sound.some
