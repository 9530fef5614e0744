-- A task has no scan any more.
use Rattle.std.proofs.Common.{◌≡◌, ℕ, zero, suc, ◌+◌, ◌<◌, ◌≤◌, List, [], ◌∷◌, ◌++◌, length, get_or, set, map, take, drop, Some, None, refl, sym, ap, ◌∙◌, subst, arith, length-set}
use Rattle.std.specs.Prelude.{slice_index}
use Rattle.spec_language.specs.Declarations.{bytes}
use Rattle.spec_machine.specs.State.{State, Progress, progress_of, programs_of, no_progress, dropped}
use Rattle.lgx_edit.specs.EditsView.{EditsView, books, holds}
use Rattle.lgx_steps.specs.declared.parts.Scan.{Scan as KeptScan}
use Rattle.lgx_steps.specs.declared.parts.Progress.{Progress as KeptProgress}
use Rattle.lgx_steps.specs.PartsView.{PartsView}
use Rattle.lgx_steps.specs.Plans.{list_at}
use Rattle.lgx_steps.specs.Represents.{RepresentsState, RepresentsTask, held_in}
use Rattle.lgx_steps.proofs.Tasks.{HoldsElsewhere, set_elsewhere, same_elsewhere, none_set, task-without, none-held, without-scan, scan-program, tasks-set}
use Rattle.lgx_steps.proofs.Reading.{list-is, in-plan, task-read}
use Rattle.lgx_steps.proofs.States.{with-progress}

abbrev pub left_at : State → ℕ → ℕ → State
left_at s t ended = record s { progress = set s.progress t (record (progress_of s t) { ended = ended; scan = None }) }

module _ (n : ℕ) (v : PartsView) (s : State) (h : RepresentsState n v s) (t ended : ℕ) (l : t < length v.progress) (left : ended < length (list_at v.plan.schedule t)) (x d : KeptProgress) (read : x ≡ get_or v.progress t d) where
  -- nothing is held of its scan's program, and of all others what was
  left-to : (book : List EditsView) → books book ≡ books v.book → HoldsElsewhere (slice_index (programs_of s t) (progress_of s t).ended) (holds v.book) (holds book) → held_in (holds book) (slice_index (programs_of s t) (progress_of s t).ended) ≡ None
      → RepresentsState n (record v { progress = set v.progress t (record x { ended = ended; scan = None }); book = book }) (left_at s t ended)
  left-to book same elsewhere none =
      let len = bytes s.plan.tags in
      let tasks = length s.plan.schedule in
      let r : RepresentsTask (holds v.book) len tasks (programs_of s t) x (progress_of s t) = task-read n v s h t l x d read in
      let y : KeptProgress = record x { ended = ended; scan = None } in
      let p : Progress = record (progress_of s t) { ended = ended; scan = None } in
      let left' : ended < length (programs_of s t) = subst (λ (ns : List ℕ). ended < length ns) (list-is n v s h t) left in
      let new : RepresentsTask (holds book) len tasks (programs_of s t) y p =
      task-without len tasks (holds book) (programs_of s t) ended y (progress_of s t).flags
      (none-held len tasks (holds v.book) (holds book) (programs_of s t) x (progress_of s t) r elsewhere none) left' refl refl r.flags in
      with-progress n v s h (set v.progress t y) (set s.progress t p) book (length-set v.progress t y) (length-set s.progress t p) same
      (tasks-set (holds v.book) (holds book) len s.plan.schedule v.progress s.progress t (progress_of s t).ended y p h.tasks h.sane.plan.once h.progresses h.sane.progresses (in-plan n v s h t l) r.left elsewhere new)

  pub left-scan : (k : KeptScan) (book : List EditsView) → x.scan ≡ Some k → books book ≡ books v.book → holds book ≡ set (holds v.book) k.program None
      → RepresentsState n (record v { progress = set v.progress t (record x { ended = ended; scan = None }); book = book }) (left_at s t ended)
  left-scan k book is same held =
      let len = bytes s.plan.tags in
      let tasks = length s.plan.schedule in
      let r : RepresentsTask (holds v.book) len tasks (programs_of s t) x (progress_of s t) = task-read n v s h t l x d read in
      let next : ℕ = slice_index (programs_of s t) (progress_of s t).ended in
      let held' : set (holds v.book) next None ≡ holds book = ap (λ i. set (holds v.book) i None) (sym (scan-program len tasks (holds v.book) (programs_of s t) x (progress_of s t) k r is)) ∙ sym held in
      left-to book same
      (subst (λ H. HoldsElsewhere next (holds v.book) H) held' (set_elsewhere (holds v.book) next None))
      (subst (λ H. held_in H next ≡ None) held' (none_set (holds v.book) next))

  pub left-without : x.scan ≡ None → RepresentsState n (record v { progress = set v.progress t (record x { ended = ended; scan = None }) }) (left_at s t ended)
  left-without is =
      let len = bytes s.plan.tags in
      let tasks = length s.plan.schedule in
      let next : ℕ = slice_index (programs_of s t) (progress_of s t).ended in
      left-to v.book refl (same_elsewhere (holds v.book) next) (without-scan len tasks (holds v.book) (programs_of s t) x (progress_of s t) (task-read n v s h t l x d read) is)

-- ---- all of them

pub mapped-more : {A : Type 0} (f : A → A) (old : List A) (i : ℕ) (d : A) → i < length old → set (map f (take i old) ++ drop i old) i (f (get_or (map f (take i old) ++ drop i old) i d)) ≡ map f (take (i + 1) old) ++ drop (i + 1) old
mapped-more f [] i d l = absurd (omega arith)
mapped-more f (x ∷ old) zero d l = refl
mapped-more f (x ∷ old) (suc i) d l =
    subst (λ n. f x ∷ set (map f (take i old) ++ drop i old) i (f (get_or (map f (take i old) ++ drop i old) i d)) ≡ map f (take n (x ∷ old)) ++ drop n (x ∷ old)) (next i)
    (ap (λ xs. f x ∷ xs) (mapped-more f old i d (omega arith)))
  where
    next : (j : ℕ) → suc (j + 1) ≡ suc j + 1
    next j = omega arith

-- the scans of the first so many tasks are left
abbrev pub left_before : State → ℕ → State
left_before s t = record s { progress = map dropped (take t s.progress) ++ drop t s.progress }

pub left-next : (s : State) (t : ℕ) → t < length s.progress → left_at (left_before s t) t 0 ≡ left_before s (t + 1)
left-next s t l = ap (λ (ps : List Progress). record s { progress = ps }) (mapped-more dropped s.progress t no_progress l)

pub left-all : (s : State) (t : ℕ) → length s.progress ≤ t → left_before s t ≡ record s { progress = map dropped s.progress }
left-all s t l = ap (λ (ps : List Progress). record s { progress = ps }) (whole s.progress t l)
  where
    whole : (ps : List Progress) (i : ℕ) → length ps ≤ i → map dropped (take i ps) ++ drop i ps ≡ map dropped ps
    whole [] zero l' = refl
    whole [] (suc i) l' = refl
    whole (p ∷ ps) zero l' = absurd (omega arith)
    whole (p ∷ ps) (suc i) l' = ap (λ qs. dropped p ∷ qs) (whole ps i (omega arith))
