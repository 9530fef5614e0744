-- The first task whose watchdog ran out, by a test of its number; tests of all numbers of a range.
use Rattle.std.proofs.Common.{◌≡◌, ℕ, zero, suc, ◌+◌, ◌<◌, ◌≤◌, Bool, true, false, cond, List, [], ◌∷◌, length, Option, Some, None, inl, inr, refl, sym, ◌∙◌, ap, subst, arith}
use Rattle.std.specs.Prelude.{not, slice_index_or}
use Rattle.std.specs.List.{list_all, position_from, range_with_len, zip}
use Rattle.std.proofs.lemmas.Bool.{and_from, cases_eq, not_from_false}
use Rattle.spec_tables.specs.declared.task.TaskDef.{TaskDef}
use Rattle.spec_tables.specs.Tasks.{TaskState, no_task, has_expired}

pub all_in : (test : ℕ → Bool) (i n : ℕ) → ((k : ℕ) → i ≤ k → k < i + n → test k ≡ true) → list_all test (range_with_len i n) ≡ true
all_in test i zero h = refl
all_in test i (suc n) h =
    and_from (test i) (list_all test (range_with_len (i + 1) n)) (h i (omega arith) (omega arith)) (all_in test (i + 1) n (λ k a b. h k (omega arith) (omega arith)))

module _ (now : ℕ) (out : ℕ → Bool) where
  -- of the tasks from number i on, which are n, it is the first that is out, or none is
  abbrev pub IsFirst : ℕ → ℕ → Option ℕ → Type 0
  IsFirst i n None = (k : ℕ) → i ≤ k → k < i + n → out k ≡ false
  IsFirst i n (Some t) = (out t ≡ true) × ((k : ℕ) → i ≤ k → k < t → out k ≡ false)

  -- one more before them that isn't out
  later : (i n : ℕ) (o : Option ℕ) → out i ≡ false → IsFirst (i + 1) n o → IsFirst i (suc n) o
  later i n None e h = λ k a b. elim (cases_eq k i) [ inl q ↦ subst (λ j. out j ≡ false) (sym q) e | inr ne ↦ h k (omega arith) (omega arith) ]
  later i n (Some t) e h =
      (h.0, λ k a b. elim (cases_eq k i) [ inl q ↦ subst (λ j. out j ≡ false) (sym q) e | inr ne ↦ h.1 k (omega arith) b ])

  by_head : (i n : ℕ) (b : Bool) (o : Option ℕ) → out i ≡ b → IsFirst (i + 1) n o → IsFirst i (suc n) (cond b (Some i) o)
  by_head i n true o e h = (e, λ k a b. absurd (omega arith))
  by_head i n false o e h = later i n o e h

  pub first_out : (i : ℕ) (ds : List TaskDef) (us : List (Option TaskState)) → length us ≡ length ds → ((k : ℕ) → k < length ds → has_expired now (slice_index_or ds k no_task) (slice_index_or us k None) ≡ out (i + k)) → IsFirst i (length ds) (position_from (λ t. has_expired now t.0 t.1) i (zip ds us))
  first_out i [] us h e = λ k a b. absurd (omega arith)
  first_out i (d ∷ ds) [] h e = absurd (omega arith)
  first_out i (d ∷ ds) (u ∷ us) h e =
      by_head i (length ds) (has_expired now d u) (position_from (λ t. has_expired now t.0 t.1) (i + 1) (zip ds us)) (ap out (let z : i ≡ i + 0 = omega arith in z) ∙ sym (e 0 (omega arith)))
      (first_out (i + 1) ds us (omega arith) (λ k l. e (suc k) (omega arith) ∙ ap out (let z : i + suc k ≡ i + 1 + k = omega arith in z)))

  pub none_out : (n : ℕ) → IsFirst 0 n None → list_all (λ t. not (out t)) (range_with_len 0 n) ≡ true
  none_out n h = all_in (λ t. not (out t)) 0 n (λ k a b. not_from_false (out k) (h k a b))

  pub none_before : (n t : ℕ) → IsFirst 0 n (Some t) → list_all (λ t. not (out t)) (range_with_len 0 t) ≡ true
  none_before n t h = all_in (λ t. not (out t)) 0 t (λ k a b. not_from_false (out k) (h.1 k a (omega arith)))
