-- The task at a place of a queue, and those before it.
use Rattle.std.proofs.Common.{◌≡◌, ℕ, zero, suc, ◌+◌, ◌-◌, ◌<◌, ◌≤◌, Bool, true, false, List, [], ◌∷◌, length, take, get_or, Option, Some, None, inl, inr, refl, sym, ap, ◌∙◌, subst, arith, slice_get, if◌then◌else◌, IfSome, IsNone}
use Rattle.std.specs.Prelude.{nat_eq}
use Rattle.std.specs.List.{All, Contains}
use Rattle.std.proofs.lemmas.Bool.{ne_eqb, cases_lt}
use Rattle.std.proofs.lemmas.Option.{none-some, same_Some, slice_get_within, slice_get-get_or, get_or_from_slice_get}
use Rattle.std.proofs.lemmas.List.{length-take-le}
use Rattle.std.proofs.lemmas.List.Elements.{All-nil, All-cons, All-take, All-contains, Contains-append_right}
use Rattle.spec_tables.specs.Tasks.{Table, state_of, task}
use Rattle.lgx_sched.specs.TableView.{TableView, queue_at, ready_at}
use Rattle.lgx_sched.specs.Represents.{Ascends, rank_of, IsUpAt, IsQueueOf, IsAheadOf, IsInLine, AtMostUp, RepresentsTable}
use Rattle.lgx_sched.proofs.Queues.{All-given, in_cons}

get_in : (q : List ℕ) (i t : ℕ) → slice_get q i ≡ Some t → Contains q t
get_in q i t e = (i, slice_get_within q i t e, get_or_from_slice_get q i t t e)

get_none : (q : List ℕ) (i : ℕ) → slice_get q i ≡ None → length q ≤ i
get_none q i e = elim (cases_lt i (length q)) [ inl l ↦ absurd (none-some (get_or q i 0) (sym e ∙ slice_get-get_or q i 0 l)) | inr past ↦ past ]

take_ascends : (r : ℕ → ℕ) (i : ℕ) (q : List ℕ) → Ascends r q → Ascends r (take i q)
take_ascends r zero q a = tt
take_ascends r (suc i) [] a = tt
take_ascends r (suc i) (x ∷ xs) a = (All-take (λ u. r x < r u) i xs a.0, take_ascends r i xs a.1)

-- each of those before a task has a lower rank
take_below : (r : ℕ → ℕ) (q : List ℕ) (i t : ℕ) → Ascends r q → slice_get q i ≡ Some t → All (λ u. r u < r t) (take i q)
take_below r [] i t a e = absurd (none-some t e)
take_below r (x ∷ xs) zero t a e = All-nil (λ u. r u < r t)
take_below r (x ∷ xs) (suc i) t a e =
    All-cons (λ u. r u < r t) x (take i xs) (All-contains (λ u. r x < r u) xs t a.0 (get_in xs i t e)) (take_below r xs i t a.1 e)

-- and whoever has a lower rank is one of them
take_all_below : (r : ℕ → ℕ) (q : List ℕ) (i t u : ℕ) → Ascends r q → slice_get q i ≡ Some t → Contains q u → r u < r t → Contains (take i q) u
take_all_below r [] i t u a e m l = absurd (none-some t e)
take_all_below r (x ∷ xs) zero t u a e m l =
    let same : r x ≡ r t = ap r (same_Some x t e) in
    elim (in_cons u x xs m) [
      | inl h ↦ let at : r u ≡ r x = ap r h in absurd (omega arith)
      | inr h ↦ let above : r x < r u = All-contains (λ w. r x < r w) xs u a.0 h in absurd (omega arith)
    ]
take_all_below r (x ∷ xs) (suc i) t u a e m l = elim (in_cons u x xs m) [
  | inl h ↦ (0, omega arith, sym h)
  | inr h ↦ Contains-append_right (x ∷ []) (take i xs) u (take_all_below r xs i t u a.1 e h l)
]

-- ---- the answer of `ready`

pub if_some : (o : Option ℕ) (P : ℕ → Type 0) → ((t : ℕ) → o ≡ Some t → P t) → IfSome o P
if_some None P h = tt
if_some (Some t) P h = h t refl

pub none_from : (o : Option ℕ) → IsNone o → o ≡ None
none_from None n = refl
none_from (Some t) n = absurd (not_false n)
  where
    not_false : true ≡ false → ⊥
    not_false e = cc

from_some : (b : Bool) (o : Option ℕ) (t : ℕ) → (if b then None else o) ≡ Some t → o ≡ Some t
from_some true o t e = absurd (none-some t e)
from_some false o t e = e

pub positive : (p : ℕ) → 0 < p → nat_eq p 0 ≡ false
positive p h = ne_eqb p 0 (λ e. absurd (omega arith))

pub ready_at-place : (v : TableView) (p i : ℕ) → 0 < p → slice_get (queue_at v (p - 1)) i ≡ ready_at v p i
ready_at-place v p i h = sym (ap (λ b. if b then None else slice_get (queue_at v (p - 1)) i) (positive p h))

queue_of : (v : TableView) (s : Table) (p : ℕ) → 0 < p → RepresentsTable v s → IsQueueOf (state_of s) (λ k. (task s k).priority) p (queue_at v (p - 1))
queue_of v s p h st =
    let same : p - 1 + 1 ≡ p = omega arith in
    subst (λ n. IsQueueOf (state_of s) (λ k. (task s k).priority) n (queue_at v (p - 1))) same (st.queues (p - 1))

pub ready_in_line : (v : TableView) (s : Table) (p i t : ℕ) → 0 < p → RepresentsTable v s → ready_at v p i ≡ Some t → IsInLine s p i t
ready_in_line v s p i t h st e = (All-contains up q t hq.each (get_in q i t got), (take i q, (ahead, length-take-le i q (let l = slice_get_within q i t got in omega arith))))
  where
    q : List ℕ
    q = queue_at v (p - 1)

    rank : ℕ → ℕ
    rank k = rank_of (state_of s k)

    up : ℕ → Type 0
    up k = IsUpAt (state_of s) (λ k. (task s k).priority) p k

    hq : IsQueueOf (state_of s) (λ k. (task s k).priority) p q
    hq = queue_of v s p h st

    got : slice_get q i ≡ Some t
    got = from_some (nat_eq p 0) (slice_get q i) t e

    ahead : IsAheadOf (state_of s) (λ k. (task s k).priority) p (rank t) (take i q)
    ahead = record {
      each = All-given up (λ u. rank u < rank t) (λ u. up u × (rank u < rank t)) (λ u a b. (a, b)) (take i q) (All-take up i q hq.each) (take_below rank q i t hq.by_rank got);
      all = λ u w l. take_all_below rank q i t u hq.by_rank got (hq.all u w) l;
      by_rank = take_ascends rank i q hq.by_rank;
    }

pub ready_none : (v : TableView) (s : Table) (p i : ℕ) → 0 < p → RepresentsTable v s → ready_at v p i ≡ None → AtMostUp s p i
ready_none v s p i h st e = (queue_at v (p - 1), (queue_of v s p h st, get_none (queue_at v (p - 1)) i (ready_at-place v p i h ∙ e)))
