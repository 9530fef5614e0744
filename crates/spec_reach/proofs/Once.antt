-- A program is in one task's list.
use Rattle.std.proofs.Common.{◌≡◌, ℕ, zero, suc, ◌+◌, ◌<◌, ◌≤◌, inl, inr, Bool, true, false, cond, List, [], ◌∷◌, ◌++◌, length, Option, Some, None, refl, sym, ◌∙◌, ap, subst, arith, eqb-true, eq-eqb}
use Rattle.std.specs.Prelude.{◌==◌, filter, flat_map, count_by, slice_index, slice_index_or}
use Rattle.std.specs.List.{list_all, range_with_len}
use Rattle.std.proofs.lemmas.Bool.{and_parts, cases_eq}
use Rattle.std.proofs.lemmas.List.Sums.{length-filter}
use Rattle.spec_tables.specs.Tasks.{TaskState, state_of}
use Rattle.spec_machine.specs.Machine.{run}
use Rattle.spec_machine.specs.Project.{Project}
use Rattle.spec_machine.specs.State.{State, Scan, progress_of, programs_of}
use Rattle.spec_machine.specs.ValidProject.{IsValidProject, is_listed_once}
use Rattle.spec_reach.specs.Programs.{ListsAreApart, ProgramsAreScannedOnce}
use Rattle.spec_reach.proofs.Changes.{Known}
use Rattle.spec_reach.proofs.Programs.{lists, tasks_are_at_programs}
use Rattle.spec_reach.proofs.Reached.{run_known}

-- ---- how often a number stands in lists

module _ (n : ℕ) where
  abbrev times : List ℕ → ℕ
  times xs = length (filter (λ m. m == n) xs)

  abbrev all : List (List ℕ) → List ℕ
  all schedule = flat_map (λ list. list) schedule

  one_more : (b : Bool) (x : ℕ) (xs : List ℕ) → length xs ≤ length (cond b (x ∷ xs) xs)
  one_more true x xs = omega arith
  one_more false x xs = omega arith

  -- a list before others makes it no fewer
  no_fewer : (xs ys : List ℕ) → times ys ≤ times (xs ++ ys)
  no_fewer [] ys = omega arith
  no_fewer (x ∷ xs) ys = (let r = no_fewer xs ys in let o = one_more (x == n) x (filter (λ m. m == n) (xs ++ ys)) in omega arith)

  counted_here : (b : Bool) (x : ℕ) (xs : List ℕ) → b ≡ true → length xs + 1 ≤ length (cond b (x ∷ xs) xs)
  counted_here true x xs e = omega arith
  counted_here false x xs e = absurd (cc e)

  -- one with the number makes it one more
  one_of : (xs ys : List ℕ) (k : ℕ) → k < length xs → slice_index xs k ≡ n → times ys + 1 ≤ times (xs ++ ys)
  one_of [] ys k l e = absurd (omega arith)
  one_of (x ∷ xs) ys zero l e = (let r = no_fewer xs ys in let o = counted_here (x == n) x (filter (λ m. m == n) (xs ++ ys)) (eq-eqb x n e) in omega arith)
  one_of (x ∷ xs) ys (suc k) l e = (let r = one_of xs ys k (omega arith) e in let o = one_more (x == n) x (filter (λ m. m == n) (xs ++ ys)) in omega arith)

  -- it stands in list t
  abbrev IsIn : List (List ℕ) → ℕ → ℕ → Type 0
  IsIn schedule t k = (k < length (slice_index_or schedule t [])) × (slice_index (slice_index_or schedule t []) k ≡ n)

  once : (schedule : List (List ℕ)) (t k : ℕ) → IsIn schedule t k → 1 ≤ times (all schedule)
  once [] t k h = (let l = h.0 in absurd (omega arith))
  once (x ∷ xs) zero k h = (let r = one_of x (all xs) k h.0 h.1 in omega arith)
  once (x ∷ xs) (suc t) k h = (let r = once xs t k h in let o = no_fewer x (all xs) in omega arith)

  -- in two lists it stands twice
  twice : (schedule : List (List ℕ)) (t u k j : ℕ) → IsIn schedule t k → IsIn schedule u j → (t ≡ u → ⊥) → 2 ≤ times (all schedule)
  twice [] t u k j h i ne = (let l = h.0 in absurd (omega arith))
  twice (x ∷ xs) zero zero k j h i ne = absurd (ne refl)
  twice (x ∷ xs) zero (suc u) k j h i ne = (let r = one_of x (all xs) k h.0 h.1 in let o = once xs u j i in omega arith)
  twice (x ∷ xs) (suc t) zero k j h i ne = (let r = one_of x (all xs) j i.0 i.1 in let o = once xs t k h in omega arith)
  twice (x ∷ xs) (suc t) (suc u) k j h i ne = (let r = twice xs t u k j h i (λ e. ne (ap suc e)) in let o = no_fewer x (all xs) in omega arith)

-- ---- a valid project

in_range : (test : ℕ → Bool) (a n i : ℕ) → list_all test (range_with_len a n) ≡ true → a ≤ i → i < a + n → test i ≡ true
in_range test a zero i h l m = absurd (omega arith)
in_range test a (suc n) i h l m =
    let q = and_parts (test a) (list_all test (range_with_len (a + 1) n)) h in
    elim (cases_eq a i) [
      | inl e ↦ subst (λ j. test j ≡ true) e q.0
      | inr ne ↦ in_range test (a + 1) n i q.1 (omega arith) (omega arith)
    ]

module _ (p : Project) (valid : IsValidProject p) where
  one_list : (s : State) (t u k j : ℕ) → Known p s → k < length (programs_of s t) → slice_index (programs_of s t) k < length p.programs → j < length (programs_of s u) → slice_index (programs_of s t) k ≡ slice_index (programs_of s u) j → t ≡ u
  one_list s t u k j known lk there lj same =
      let n = slice_index (programs_of s t) k in
      let a = lists p valid s t known in
      let b = lists p valid s u known in
      let first : IsIn n p.schedule t k = subst (λ (xs : List ℕ). (k < length xs) × (slice_index xs k ≡ n)) a (lk, refl) in
      let second : IsIn n p.schedule u j = subst (λ (xs : List ℕ). (j < length xs) × (slice_index xs j ≡ n)) b (lj, sym same) in
      let only = in_range (is_listed_once p.schedule) 0 (length p.programs) n valid.once (omega arith) (omega arith) in
      let count = length-filter (λ m. m == n) (all n p.schedule) in
      let one = eqb-true (count_by (λ m. m == n) (all n p.schedule)) 1 only in
      elim (cases_eq t u) [ inl e ↦ e | inr ne ↦ (let w = twice n p.schedule t u k j first second ne in absurd (omega arith)) ]

pub lists_are_apart : ListsAreApart
lists_are_apart p journal t u k j valid lk lj same =
    one_list p valid (run p journal) t u k j (run_known p journal) lk ((tasks_are_at_programs p journal t valid).known k lk) lj same

-- a task with a scan is up
scan_up : (p : Project) (s : State) (t : ℕ) (x : Scan) → Known p s → (progress_of s t).scan ≡ Some x → (u : TaskState) × (state_of s.table t ≡ Some u)
scan_up p s t x known is = go (state_of s.table t) refl
  where
    go : (o : Option TaskState) → state_of s.table t ≡ o → (u : TaskState) × (o ≡ Some u)
    go None e = absurd (cc (is, ((known.sound t).down e).0))
    go (Some u) e = (u, refl)

pub programs_are_scanned_once : ProgramsAreScannedOnce
programs_are_scanned_once p journal t u x y valid a b same =
    let s = run p journal in
    let known = run_known p journal in
    let v = scan_up p s t x known a in
    let w = scan_up p s u y known b in
    let g = tasks_are_at_programs p journal t valid in
    let h = tasks_are_at_programs p journal u valid in
    lists_are_apart p journal t u (progress_of s t).ended (progress_of s u).ended valid (g.to_come v.0 v.1) (h.to_come w.0 w.1) (sym (g.scanned x a) ∙ (same ∙ h.scanned y b))
