-- The law of regions, task by task.
use Rattle.std.proofs.Common.{◌≡◌, ℕ, zero, suc, ◌+◌, ◌<◌, Bool, true, false, List, [], ◌∷◌, length, refl, sym, ◌∙◌, ap, arith}
use Rattle.std.specs.Prelude.{slice_index_or, nat_eq, not, ◌&&◌, ◌||◌, nat_lt}
use Rattle.std.specs.List.{list_any, enumerate_from}
use Rattle.std.proofs.lemmas.Bool.{or_from, or_left, or_right}
use Rattle.lgx_audit.specs.declared.counts.Count.{Count}
use Rattle.spec_schedule.specs.Counting.{Counted, uncounted, is_open}
use Rattle.spec_schedule.specs.Legal.{another_open}
use Rattle.lgx_audit.specs.Along.{shown, no_count, Shown}

any_at : {A : Type 0} (test : ℕ × A → Bool) (i : ℕ) (xs : List A) (d : A) (k : ℕ) → k < length xs → test (i + k, slice_index_or xs k d) ≡ true → list_any test (enumerate_from i xs) ≡ true
any_at test i [] d k l h = absurd (omega arith)
any_at test i (x ∷ xs) d zero l h = or_left (test (i, x)) _ (ap (λ n. test (n, x)) (let z : i ≡ i + 0 = omega arith in z) ∙ h)
any_at test i (x ∷ xs) d (suc k) l h =
    or_right (test (i, x)) _ (any_at test (i + 1) xs d k (omega arith) (ap (λ n. test (n, slice_index_or xs k d)) (let z : i + 1 + k ≡ i + suc k = omega arith in z) ∙ h))

any_none : {A : Type 0} (test : ℕ × A → Bool) (i : ℕ) (xs : List A) (d : A) → ((k : ℕ) → k < length xs → test (i + k, slice_index_or xs k d) ≡ false) → list_any test (enumerate_from i xs) ≡ false
any_none test i [] d h = refl
any_none test i (x ∷ xs) d h =
    or_from (test (i, x)) _ (ap (λ n. test (n, x)) (let z : i ≡ i + 0 = omega arith in z) ∙ h 0 (omega arith))
    (any_none test (i + 1) xs d (λ k l. ap (λ n. test (n, slice_index_or xs k d)) (let z : i + 1 + k ≡ i + suc k = omega arith in z) ∙ h (suc k) (omega arith)))

-- whether a count is of a task with something open
abbrev pub opens : Count → Bool
opens c = nat_lt 0 c.regions || c.cps_open

pub opens_shown : (c : Count) (x : Counted) → c ≡ shown x → opens c ≡ is_open x
opens_shown c x is = ap opens is

module _ (t : ℕ) (counts : List Count) (cs : List Counted) (h : Shown counts cs) where
  same_at : (k : ℕ) → k < length cs → is_open (slice_index_or cs k uncounted) ≡ opens (slice_index_or counts k no_count)
  same_at k l = sym (opens_shown _ _ (h.each k l))

  pub open_here : (u : ℕ) → u < length counts → (opens (slice_index_or counts u no_count) && not (nat_eq u t)) ≡ true → another_open t cs ≡ true
  open_here u l is =
      let m = h.many in
      any_at (λ v. is_open v.1 && not (nat_eq v.0 t)) 0 cs uncounted u (omega arith)
      (ap (λ n. is_open (slice_index_or cs u uncounted) && not (nat_eq n t)) (let z : 0 + u ≡ u = omega arith in z) ∙ (ap (λ b. b && not (nat_eq u t)) (same_at u (omega arith)) ∙ is))

  pub open_nowhere : ((u : ℕ) → u < length counts → (opens (slice_index_or counts u no_count) && not (nat_eq u t)) ≡ false) → another_open t cs ≡ false
  open_nowhere none =
      let m = h.many in
      any_none (λ v. is_open v.1 && not (nat_eq v.0 t)) 0 cs uncounted
      (λ u l. ap (λ n. is_open (slice_index_or cs u uncounted) && not (nat_eq n t)) (let z : 0 + u ≡ u = omega arith in z) ∙ (ap (λ b. b && not (nat_eq u t)) (same_at u l) ∙ none u (omega arith)))
