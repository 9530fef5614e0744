-- Laws of one queue: the tasks of a priority that are up, each once, by their ranks.
use Rattle.std.proofs.Common.{◌≡◌, ℕ, ◌<◌, zero, suc, List, [], ◌∷◌, ◌++◌, get_or, Option, Some, None, ◌⊎◌, inl, inr, IsTrue, is_some, refl, sym, ap, subst, arith}
use Rattle.std.specs.List.{All, Contains}
use Rattle.std.proofs.lemmas.Bool.{cases_eq, false≢true}
use Rattle.std.proofs.lemmas.List.Elements.{All-nil, All-head, All-tail, All-push, All-weaker, Contains-push, Contains-append_left}
use Rattle.spec_tables.specs.Tasks.{TaskState}
use Rattle.lgx_sched.specs.Represents.{Ascends, rank_of, IsUpAt, IsQueueOf}

abbrev pub Lookup : Type 0
Lookup = ℕ → Option TaskState

abbrev pub rank_in : Lookup → ℕ → ℕ
rank_in f t = rank_of (f t)

-- ---- lists

-- what is true of each, given what else is true of each
pub All-given : (P R Q : ℕ → Type 0) → ((t : ℕ) → P t → R t → Q t) → (q : List ℕ) → All P q → All R q → All Q q
All-given P R Q h q e r = λ k d l. h (get_or q k d) (e k d l) (r k d l)

pub in_cons : (t u : ℕ) (q : List ℕ) → Contains (u ∷ q) t → (t ≡ u) ⊎ Contains q t
in_cons t u q (zero, l, e) = inl (sym e)
in_cons t u q (suc k, l, e) = inr (k, omega arith, e)

-- ranks that are the same for each task of the queue
pub Ascends-same : (r r' : ℕ → ℕ) (q : List ℕ) → All (λ t. r' t ≡ r t) q → Ascends r q → Ascends r' q
Ascends-same r r' [] e a = tt
Ascends-same r r' (t ∷ ts) e a =
    let same = All-head (λ u. r' u ≡ r u) t ts e in
    let others = All-tail (λ u. r' u ≡ r u) t ts e in (
      All-given (λ u. r t < r u) (λ u. r' u ≡ r u) (λ u. r' t < r' u) (λ u l s. subst (λ n. n < r' u) (sym same) (subst (λ n. r t < n) (sym s) l)) ts a.0 others,
      Ascends-same r r' ts others a.1,
    )

pub Ascends-append : (r : ℕ → ℕ) (q : List ℕ) (t : ℕ) → Ascends r q → All (λ u. r u < r t) q → Ascends r (q ++ t ∷ [])
Ascends-append r [] t a e = (All-nil (λ u. r t < r u), tt)
Ascends-append r (u ∷ us) t a e = (
  All-push (λ x. r u < r x) us t a.0 (All-head (λ x. r x < r t) u us e),
  Ascends-append r us t a.1 (All-tail (λ x. r x < r t) u us e),
)

-- ---- one queue as the states change

-- the states of the tasks of the queue stay as they are, and no other joins it
pub same_queue : (f g : Lookup) (pr : ℕ → ℕ) (p : ℕ) (q : List ℕ) → ((t : ℕ) → IsUpAt f pr p t → IsUpAt g pr p t × (rank_in g t ≡ rank_in f t)) → ((t : ℕ) → IsUpAt g pr p t → IsUpAt f pr p t) → IsQueueOf f pr p q → IsQueueOf g pr p q
same_queue f g pr p q keeps joins h = record {
  each = All-weaker (IsUpAt f pr p) (IsUpAt g pr p) (λ t w. (keeps t w).0) q h.each;
  all = λ t w. h.all t (joins t w);
  by_rank = Ascends-same (rank_in f) (rank_in g) q (All-weaker (IsUpAt f pr p) (λ t. rank_in g t ≡ rank_in f t) (λ t w. (keeps t w).1) q h.each) h.by_rank;
}

-- a change of one task's state, which is of another priority
pub other_queue : (f g : Lookup) (pr : ℕ → ℕ) (t p : ℕ) (q : List ℕ) → ((u : ℕ) → (u ≡ t → ⊥) → g u ≡ f u) → (pr t ≡ p → ⊥) → IsQueueOf f pr p q → IsQueueOf g pr p q
other_queue f g pr t p q same other h =
    same_queue f g pr p q
    (λ u w. let e = same u (λ u_is. other (subst (λ x. pr x ≡ p) u_is w.1)) in ((subst (λ x. IsTrue (is_some x)) (sym e) w.0, w.1), ap rank_of e))
    (λ u w. let e = same u (λ u_is. other (subst (λ x. pr x ≡ p) u_is w.1)) in (subst (λ x. IsTrue (is_some x)) e w.0, w.1))
    h

-- a task that was down comes up with a rank above all others
pub queue-push : (f g : Lookup) (pr : ℕ → ℕ) (t : ℕ) (u : TaskState) (q : List ℕ) → ((k : ℕ) → (k ≡ t → ⊥) → g k ≡ f k) → f t ≡ None → g t ≡ Some u → ((k : ℕ) → IsTrue (is_some (f k)) → rank_in f k < u.rank) → IsQueueOf f pr (pr t) q → IsQueueOf g pr (pr t) (q ++ t ∷ [])
queue-push f g pr t u q same down up below h =
    let apart : (k : ℕ) → IsTrue (is_some (f k)) → k ≡ t → ⊥ = λ k w k_is. false≢true (subst (λ x. IsTrue (is_some x)) down (subst (λ x. IsTrue (is_some (f x))) k_is w)) in
    let kept : (k : ℕ) → IsUpAt f pr (pr t) k → g k ≡ f k = λ k w. same k (apart k w.0) in
    record {
      each = All-push (IsUpAt g pr (pr t)) q t
          (All-weaker (IsUpAt f pr (pr t)) (IsUpAt g pr (pr t)) (λ k w. (subst (λ x. IsTrue (is_some x)) (sym (kept k w)) w.0, w.1)) q h.each)
          (subst (λ x. IsTrue (is_some x)) (sym up) refl, refl);
      all = λ k w. elim (cases_eq k t) [
        | inl k_is ↦ subst (λ x. Contains (q ++ t ∷ []) x) (sym k_is) (Contains-push q t)
        | inr ne ↦ Contains-append_left q (t ∷ []) k (h.all k (subst (λ x. IsTrue (is_some x)) (same k ne) w.0, w.1))
      ];
      by_rank = Ascends-append (rank_in g) q t
          (Ascends-same (rank_in f) (rank_in g) q (All-weaker (IsUpAt f pr (pr t)) (λ k. rank_in g k ≡ rank_in f k) (λ k w. ap rank_of (kept k w)) q h.each) h.by_rank)
          (All-weaker (IsUpAt f pr (pr t)) (λ k. rank_in g k < rank_in g t) (λ k w. subst (λ n. n < rank_in g t) (sym (ap rank_of (kept k w))) (subst (λ n. rank_in f k < n) (sym (ap rank_of up)) (below k w.0))) q h.each);
    }

-- the first task of the queue goes down
pub queue-pop : (f g : Lookup) (pr : ℕ → ℕ) (t p : ℕ) (q : List ℕ) → ((k : ℕ) → (k ≡ t → ⊥) → g k ≡ f k) → g t ≡ None → IsQueueOf f pr p (t ∷ q) → IsQueueOf g pr p q
queue-pop f g pr t p q same down h =
    let after : All (λ k. g k ≡ f k) q = All-weaker (λ k. rank_in f t < rank_in f k) (λ k. g k ≡ f k) (λ k l. same k (λ k_is. lt_irrefl (rank_in f t) (subst (λ x. rank_in f t < rank_in f x) k_is l))) q (h.by_rank.0) in
    record {
      each = All-given (λ k. g k ≡ f k) (IsUpAt f pr p) (IsUpAt g pr p) (λ k e w. (subst (λ x. IsTrue (is_some x)) (sym e) w.0, w.1)) q after (All-tail (IsUpAt f pr p) t q h.each);
      all = λ k w. elim (cases_eq k t) [
        | inl k_is ↦ absurd (false≢true (subst (λ x. IsTrue (is_some x)) down (subst (λ x. IsTrue (is_some (g x))) k_is w.0)))
        | inr ne ↦ elim (in_cons k t q (h.all k (subst (λ x. IsTrue (is_some x)) (same k ne) w.0, w.1))) [ inl k_is ↦ absurd (ne k_is) | inr i ↦ i ]
      ];
      by_rank = Ascends-same (rank_in f) (rank_in g) q (All-weaker (λ k. g k ≡ f k) (λ k. rank_in g k ≡ rank_in f k) (λ k e. ap rank_of e) q after) (h.by_rank.1);
    }
  where
    lt_irrefl : (n : ℕ) → n < n → ⊥
    lt_irrefl n l = omega arith
