-- The task at the front of the first queue that has one is the least by priority and then by rank.
use Rattle.std.proofs.Common.{◌≡◌, ℕ, ◌+◌, ◌-◌, ◌<◌, ◌≤◌, zero, suc, Bool, true, false, cond, eqb, List, [], ◌∷◌, length, get_or, map, Option, Some, None, option_map, ◌⊎◌, inl, inr, IsTrue, is_some, refl, sym, ap, ◌∙◌, subst, arith}
use Rattle.std.specs.List.{position_from, All, Contains}
use Rattle.std.proofs.lemmas.Bool.{cases_lt, false≢true, eq-eqb, ne_eqb}
use Rattle.std.proofs.lemmas.Option.{none-some, same_Some}
use Rattle.std.proofs.lemmas.List.Elements.{All-head, All-contains}
use Rattle.spec_base.proofs.Lists.{value_of_some}
use Rattle.std.proofs.lemmas.Bool.Decides.{nat_tests}
use Rattle.std.proofs.lemmas.List.{get_or_past, get_or-map, length-map}
use Rattle.spec_tables.specs.declared.task.TaskDef.{TaskDef}
use Rattle.spec_tables.specs.Tasks.{TaskState, Table, Candidate, candidates, before, least_of, least, or_else, chosen, is_open, state_of, task, no_task}
use Rattle.lgx_sched.specs.declared.active.ActiveTask.{ActiveTask}
use Rattle.lgx_sched.specs.TableView.{TableView, up_of, queue_at, has_open, front_of, next_task}
use Rattle.lgx_sched.specs.Represents.{Ascends, rank_of, without_rank, IsUpAt, RepresentsTable, IsSound, is_it}
use Rattle.lgx_sched.proofs.Queues.{in_cons}
use Rattle.spec_base.proofs.Numbers.{one_on, one_more}

-- ---- the least of candidates

abbrev pub Among : Candidate → List Candidate → Type 0
Among a [] = ⊥
Among a (c ∷ cs) = (a ≡ c) ⊎ Among a cs

abbrev pub Wins : Candidate → Candidate → Type 0
Wins a c = (a ≡ c) ⊎ (before a c ≡ true)

abbrev pub Beats : Candidate → List Candidate → Type 0
Beats a [] = Unit {0}
Beats a (c ∷ cs) = Wins a c × Beats a cs

before_asym : (a b : Candidate) → before a b ≡ true → before b a ≡ false
before_asym a b h = grind (arith, nat_tests)

pub before-priority : (a b : Candidate) → a.priority < b.priority → before a b ≡ true
before-priority a b h = grind (arith, nat_tests)

pub before-rank : (a b : Candidate) → a.priority ≡ b.priority → a.rank < b.rank → before a b ≡ true
before-rank a b e h = grind (arith, nat_tests)

-- the better of two still loses to the best, which is it or among the others
better : (a b c : Candidate) (cs : List Candidate) (t : Bool) → before c b ≡ t → (a ≡ b) ⊎ Among a (c ∷ cs) → Wins a b → Wins a c → ((a ≡ cond t c b) ⊎ Among a cs) × Wins a (cond t c b)
better a b c cs true e i w wc = (
  elim i [
    | inl a_b ↦ elim wc [ inl a_c ↦ inl a_c | inr l ↦ absurd (false≢true (sym (before_asym a c l) ∙ (ap (λ x. before c x) a_b ∙ e))) ]
    | inr j ↦ elim j [ inl a_c ↦ inl a_c | inr k ↦ inr k ]
  ],
  wc,
)
better a b c cs false e i w wc = (
  elim i [
    | inl a_b ↦ inl a_b
    | inr j ↦ elim j [
      | inl a_c ↦ elim w [ inl a_b ↦ inl a_b | inr l ↦ absurd (false≢true (sym e ∙ (ap (λ x. before x b) (sym a_c) ∙ l))) ]
      | inr k ↦ inr k
    ]
  ],
  w,
)

least_of-beats : (a b : Candidate) (cs : List Candidate) → (a ≡ b) ⊎ Among a cs → Wins a b → Beats a cs → least_of b cs ≡ a
least_of-beats a b [] i w bs = elim i [ inl e ↦ sym e | inr x ↦ absurd x ]
least_of-beats a b (c ∷ cs) i w bs =
    let next = better a b c cs (before c b) refl i w bs.0 in
    least_of-beats a (cond (before c b) c b) cs next.0 next.1 bs.1

pub least-beats : (a : Candidate) (cs : List Candidate) → Among a cs → Beats a cs → least cs ≡ Some a.task
least-beats a [] i bs = absurd i
least-beats a (c ∷ cs) i bs = ap (λ (x : Candidate). Some x.task) (least_of-beats a c cs i bs.0 bs.1)

-- ---- the candidates

abbrev pub up_candidate : ℕ → TaskDef → TaskState → Candidate
up_candidate t d u = record { task = t; priority = d.priority; rank = u.rank }

Beats-candidates : (a : Candidate) (n : ℕ) (ds : List TaskDef) (us : List (Option TaskState)) → ((k : ℕ) (u : TaskState) → get_or us k None ≡ Some u → Wins a (up_candidate (n + k) (get_or ds k no_task) u)) → Beats a (candidates n ds us)
Beats-candidates a n [] us h = tt
Beats-candidates a n (d ∷ ds) [] h = tt
Beats-candidates a n (d ∷ ds) (None ∷ us) h =
    Beats-candidates a (n + 1) ds us (λ k u e. subst (λ m. Wins a (up_candidate m (get_or ds k no_task) u)) (one_on n k) (h (suc k) u e))
Beats-candidates a n (d ∷ ds) (Some x ∷ us) h = (
  subst (λ m. Wins a (up_candidate m d x)) (zero_more n) (h 0 x refl),
  Beats-candidates a (n + 1) ds us (λ k u e. subst (λ m. Wins a (up_candidate m (get_or ds k no_task) u)) (one_on n k) (h (suc k) u e)),
)
  where
    zero_more : (m : ℕ) → m + 0 ≡ m
    zero_more m = omega arith

Among-candidates : (n : ℕ) (ds : List TaskDef) (us : List (Option TaskState)) (k : ℕ) (u : TaskState) → k < length ds → get_or us k None ≡ Some u → Among (up_candidate (n + k) (get_or ds k no_task) u) (candidates n ds us)
Among-candidates n [] us k u l e = absurd (omega arith)
Among-candidates n (d ∷ ds) [] k u l e = absurd (cc)
Among-candidates n (d ∷ ds) (None ∷ us) zero u l e = absurd (cc)
Among-candidates n (d ∷ ds) (None ∷ us) (suc k) u l e =
    subst (λ m. Among (up_candidate m (get_or ds k no_task) u) (candidates (n + 1) ds us)) (sym (one_on n k)) (Among-candidates (n + 1) ds us k u (omega arith) e)
Among-candidates n (d ∷ ds) (Some x ∷ us) zero u l e =
    inl (candidate_is n d x u (omega arith) e)
  where
    candidate_is : (m : ℕ) (d' : TaskDef) (y z : TaskState) → m + 0 ≡ m → Some y ≡ Some z → up_candidate (m + 0) d' z ≡ up_candidate m d' y
    candidate_is m d' y z e' o = let same : y ≡ z = cc in ap (λ i. up_candidate i d' z) e' ∙ ap (λ w. up_candidate m d' w) (sym same)
Among-candidates n (d ∷ ds) (Some x ∷ us) (suc k) u l e =
    inr (subst (λ m. Among (up_candidate m (get_or ds k no_task) u) (candidates (n + 1) ds us)) (sym (one_on n k)) (Among-candidates (n + 1) ds us k u (omega arith) e))

candidates-none : (n : ℕ) (ds : List TaskDef) (us : List (Option TaskState)) → ((k : ℕ) → get_or us k None ≡ None) → candidates n ds us ≡ []
candidates-none n [] us h = refl
candidates-none n (d ∷ ds) [] h = refl
candidates-none n (d ∷ ds) (None ∷ us) h = candidates-none (n + 1) ds us (λ k. h (suc k))
candidates-none n (d ∷ ds) (Some x ∷ us) h = absurd (not_both x (h 0))
  where
    not_both : (y : TaskState) → Some y ≡ None → ⊥
    not_both y e = cc

-- ---- the front of the queues

pub record FrontAt (qs : List (List ℕ)) (t p : ℕ) : Type 0 where
  pub rest : List ℕ
  pub starts : get_or qs p [] ≡ t ∷ rest
  pub earlier : (k : ℕ) → k < p → get_or qs k [] ≡ []

pub front-some : (qs : List (List ℕ)) (t : ℕ) → front_of qs ≡ Some t → (p : ℕ) × FrontAt qs t p
front-some [] t e = absurd (none-some t e)
front-some ([] ∷ qs) t e =
    let later = front-some qs t e in
    (suc later.0, record { rest = later.1.rest; starts = later.1.starts; earlier = λ k. before_it qs later.0 later.1.earlier k })
  where
    before_it : (rs : List (List ℕ)) (p : ℕ) → ((k : ℕ) → k < p → get_or rs k [] ≡ []) → (k : ℕ) → k < suc p → get_or ([] ∷ rs) k [] ≡ []
    before_it rs p h zero l = refl
    before_it rs p h (suc k) l = h k (omega arith)
front-some ((u ∷ q) ∷ qs) t e = (0, record { rest = q; starts = ap (λ x. x ∷ q) (same_Some u t e); earlier = λ k l. absurd (omega arith) })

pub front-none : (qs : List (List ℕ)) → front_of qs ≡ None → (k : ℕ) → get_or qs k [] ≡ []
front-none [] e k = refl
front-none ([] ∷ qs) e zero = refl
front-none ([] ∷ qs) e (suc k) = front-none qs e k
front-none ((u ∷ q) ∷ qs) e k = absurd (none-some u (sym e))

-- ---- the first open task

pub position-is_it : {X : Type 0} (test : X → Bool) (d : X) (xs : List X) (n : ℕ) (o : Option ℕ) → test d ≡ false → ((k : ℕ) → test (get_or xs k d) ≡ is_it o k) → position_from test n xs ≡ option_map (λ k. n + k) o
position-is_it test d [] n None shut h = refl
position-is_it test d [] n (Some m) shut h = absurd (false≢true (sym shut ∙ (h m ∙ eq-eqb m m refl)))
position-is_it test d (x ∷ xs) n None shut h =
    ap (λ b. cond b (Some n) (position_from test (n + 1) xs)) (h 0) ∙ position-is_it test d xs (n + 1) None shut (λ k. h (suc k))
position-is_it test d (x ∷ xs) n (Some zero) shut h =
    ap (λ b. cond b (Some n) (position_from test (n + 1) xs)) (h 0 ∙ eq-eqb 0 0 refl) ∙ ap (λ (m : ℕ). Some m) (zero_more n)
  where
    zero_more : (m : ℕ) → m ≡ m + 0
    zero_more m = omega arith
position-is_it test d (x ∷ xs) n (Some (suc m)) shut h =
    ap (λ b. cond b (Some n) (position_from test (n + 1) xs)) (h 0 ∙ ne_eqb (suc m) 0 (λ e. suc_zero m e))
    ∙ (position-is_it test d xs (n + 1) (Some m) shut (λ k. h (suc k) ∙ eq_suc m k) ∙ ap (λ (i : ℕ). Some i) (sym (one_on n m)))
  where
    suc_zero : (i : ℕ) → suc i ≡ 0 → ⊥
    suc_zero i e = omega arith

    eq_suc : (i k : ℕ) → eqb (suc i) (suc k) ≡ eqb i k
    eq_suc i k = grind (arith, nat_tests)

from_zero : (o : Option ℕ) → option_map (λ k. 0 + k) o ≡ o
from_zero None = refl
from_zero (Some k) = ap (λ (i : ℕ). Some i) (add_zero k)
  where
    add_zero : (n : ℕ) → 0 + n ≡ n
    add_zero n = omega arith

-- ---- what a table that represents a list knows of it

pub same_length : (v : TableView) (s : Table) → IsSound v → RepresentsTable v s → length s.states ≡ length s.defs
same_length v s sound h = sym (length-map s.states (option_map without_rank)) ∙ (sym (ap (λ (xs : List (Option ActiveTask)). length xs) h.ups) ∙ (sound.as_many ∙ ap (λ (xs : List TaskDef). length xs) h.defs))

pub within : (us : List (Option TaskState)) (k : ℕ) → IsTrue (is_some (get_or us k None)) → k < length us
within us k w = elim (cases_lt k (length us)) [ inl l ↦ l | inr past ↦ absurd (false≢true (subst (λ x. IsTrue (is_some x)) (get_or_past us k None past) w)) ]

-- the priority of an up task is one more than the place of its queue
pub placed : (v : TableView) (s : Table) → IsSound v → RepresentsTable v s → (k : ℕ) → IsTrue (is_some (state_of s k)) → (task s k).priority ≡ (task s k).priority - 1 + 1
placed v s sound h k w =
    let l : k < length v.defs = subst (λ n. k < n) (same_length v s sound h ∙ sym (ap (λ (xs : List TaskDef). length xs) h.defs)) (within s.states k w) in
    let positive : 0 < (task s k).priority = subst (λ (xs : List TaskDef). 0 < (get_or xs k no_task).priority) h.defs ((sound.priorities k l).0) in
    one_more ((task s k).priority) positive

pub in_queue : (v : TableView) (s : Table) → IsSound v → RepresentsTable v s → (k : ℕ) → IsTrue (is_some (state_of s k)) → Contains (queue_at v ((task s k).priority - 1)) k
in_queue v s sound h k w = (h.queues ((task s k).priority - 1)).all k (w, placed v s sound h k w)

not_in : (k : ℕ) → Contains [] k → ⊥
not_in k c = let l = c.1 in omega arith

all_down_if_none : (v : TableView) (s : Table) → IsSound v → RepresentsTable v s → ((p : ℕ) → queue_at v p ≡ []) → (k : ℕ) (o : Option TaskState) → state_of s k ≡ o → o ≡ None
all_down_if_none v s sound h empty k None e = refl
all_down_if_none v s sound h empty k (Some u) e =
    absurd (not_in k (subst (λ q. Contains q k) (empty ((task s k).priority - 1)) (in_queue v s sound h k (subst (λ x. IsTrue (is_some x)) (sym e) refl))))

pub up_at_front : (v : TableView) (s : Table) → RepresentsTable v s → (t p : ℕ) → FrontAt v.queues t p → IsUpAt (state_of s) (λ k. (task s k).priority) (p + 1) t
up_at_front v s h t p f =
    let up : ℕ → Type 0 = IsUpAt (state_of s) (λ k. (task s k).priority) (p + 1) in
    All-head up t f.rest (subst (λ q. All up q) f.starts ((h.queues p).each))

-- the front of the queues is ahead of every other task
front_wins : (v : TableView) (s : Table) → IsSound v → RepresentsTable v s → (t p : ℕ) → FrontAt v.queues t p → (x : TaskState) → state_of s t ≡ Some x → (task s t).priority ≡ p + 1 → (k : ℕ) (u : TaskState) → state_of s k ≡ Some u → Wins (up_candidate t (task s t) x) (up_candidate k (task s k) u)
front_wins v s sound h t p f x tx pr k u ku =
    let w : IsTrue (is_some (state_of s k)) = subst (λ y. IsTrue (is_some y)) (sym ku) refl in
    let place = (task s k).priority - 1 in
    let above : (task s k).priority ≡ place + 1 = placed v s sound h k w in
    let mine : Contains (queue_at v place) k = in_queue v s sound h k w in
    elim (cases_lt place p) [
      | inl l ↦ absurd (not_in k (subst (λ q. Contains q k) (f.earlier place l) mine))
      | inr ge ↦ elim (cases_lt p place) [
        | inl l ↦ inr (before-priority (up_candidate t (task s t) x) (up_candidate k (task s k) u) (lower ((task s t).priority) ((task s k).priority) place p pr above l))
        | inr le ↦
            let place_p : place ≡ p = omega arith in
            let ahead : Ascends (λ i. rank_of (state_of s i)) (t ∷ f.rest) = subst (λ q. Ascends (λ i. rank_of (state_of s i)) q) f.starts ((h.queues p).by_rank) in
            elim (in_cons k t f.rest (subst (λ q. Contains q k) f.starts (subst (λ i. Contains (queue_at v i) k) place_p mine))) [
              | inl k_t ↦ inl (same_one t k x u (sym k_t) tx ku)
              | inr i ↦ inr (before-rank (up_candidate t (task s t) x) (up_candidate k (task s k) u) (pr ∙ (ap (λ i'. i' + 1) (sym place_p) ∙ sym above))
                  (subst (λ r. r < u.rank) (ap rank_of tx) (subst (λ r. rank_of (state_of s t) < r) (ap rank_of ku) (All-contains (λ j. rank_of (state_of s t) < rank_of (state_of s j)) f.rest k ahead.0 i))))
            ]
      ]
    ]
  where
    lower : (a b i j : ℕ) → a ≡ j + 1 → b ≡ i + 1 → j < i → a < b
    lower a b i j e e' l = omega arith

    same_one : (a b : ℕ) (y z : TaskState) → a ≡ b → state_of s a ≡ Some y → state_of s b ≡ Some z → up_candidate a (task s a) y ≡ up_candidate b (task s b) z
    same_one a b y z e ey ez =
        let e' : state_of s b ≡ Some y = subst (λ i. state_of s i ≡ Some y) e ey in
        let yz : y ≡ z = cc in
        ap (λ i. up_candidate i (task s i) y) e ∙ ap (λ w'. up_candidate b (task s b) w') yz

pub least-front : (v : TableView) (s : Table) → IsSound v → RepresentsTable v s → (o : Option ℕ) → front_of v.queues ≡ o → least (candidates 0 s.defs s.states) ≡ o
least-front v s sound h None e =
    ap least (candidates-none 0 s.defs s.states (λ k. all_down_if_none v s sound h (front-none v.queues e) k (state_of s k) refl))
least-front v s sound h (Some t) e =
    let f = front-some v.queues t e in
    let p = f.0 in
    let here = up_at_front v s h t p f.1 in
    let x = value_of_some (state_of s t) here.0 in
    let l : t < length s.defs = subst (λ n. t < n) (same_length v s sound h) (within s.states t here.0) in
    least-beats (up_candidate t (task s t) x.0) (candidates 0 s.defs s.states)
    (subst (λ i. Among (up_candidate i (task s t) x.0) (candidates 0 s.defs s.states)) (add_zero t) (Among-candidates 0 s.defs s.states t x.0 l x.1))
    (Beats-candidates (up_candidate t (task s t) x.0) 0 s.defs s.states
    (λ k u ku. subst (λ i. Wins (up_candidate t (task s t) x.0) (up_candidate i (task s k) u)) (sym (add_zero k)) (front_wins v s sound h t p f.1 x.0 x.1 here.1 k u ku)))
  where
    add_zero : (n : ℕ) → 0 + n ≡ n
    add_zero n = omega arith

-- ---- the chosen task

pub open_as_up : (o : Option TaskState) → is_open o ≡ has_open (option_map without_rank o)
open_as_up None = refl
open_as_up (Some u) = refl

pub state_as_up : (v : TableView) (s : Table) → RepresentsTable v s → (t : ℕ) → up_of v t ≡ option_map without_rank (state_of s t)
state_as_up v s h t =
    ap (λ (xs : List (Option ActiveTask)). get_or xs t None) h.ups ∙ elim (cases_lt t (length s.states)) [
      | inl l ↦ get_or-map (option_map without_rank) s.states t None None l
      | inr past ↦ get_or_past (map (option_map without_rank) s.states) t None (subst (λ n. n ≤ t) (sym (length-map s.states (option_map without_rank))) past) ∙ ap (option_map without_rank) (sym (get_or_past s.states t None past))
    ]

pub first_open : (v : TableView) (s : Table) → IsSound v → RepresentsTable v s → position_from is_open 0 s.states ≡ v.open_task
first_open v s sound h =
    position-is_it is_open None s.states 0 v.open_task refl (λ k. open_as_up (state_of s k) ∙ (ap has_open (sym (state_as_up v s h k)) ∙ sound.alone k)) ∙ from_zero v.open_task

-- the table's answer is the definition's
pub next_task-chosen : (v : TableView) (s : Table) → IsSound v → RepresentsTable v s → next_task v ≡ chosen s
next_task-chosen v s sound h =
    sym (ap (λ o. or_else o (least (candidates 0 s.defs s.states))) (first_open v s sound h) ∙ ap (λ o. or_else v.open_task o) (least-front v s sound h (front_of v.queues) refl))
