-- The chosen task is the least by priority and rank, unless something is open.
use Rattle.std.proofs.Common.{◌≡◌, ℕ, zero, suc, ◌+◌, ◌<◌, ◌≤◌, ◌⊎◌, inl, inr, Bool, true, false, List, [], ◌∷◌, length, Option, Some, None, refl, sym, ◌∙◌, ap, subst, arith}
use Rattle.std.specs.Prelude.{nat_lt, nat_eq, ◌&&◌, slice_index_or, if◌then◌else◌}
use Rattle.std.specs.List.{AllByRecursion as Each, position_from}
use Rattle.std.proofs.lemmas.Bool.{and_parts, and_cases, or_cases, or_parts, ltb-true, ltb-false, eqb-true, eqb-false}
use Rattle.std.proofs.lemmas.Option.{same_Some}
use Rattle.spec_base.proofs.Lists.{each_parts}
use Rattle.spec_tables.specs.declared.task.TaskDef.{TaskDef}
use Rattle.spec_tables.specs.Tasks.{TaskState, Table, Candidate, state_of, task, no_task, is_open, chosen, or_else, least, least_of, before, candidate, candidates}
use Rattle.spec_tables.proofs.StateLists.{found, none_found}

-- ---- the order

-- the first has no lower priority than the second and, of equal priorities, no greater rank
pub record Leads (a b : Candidate) : Type 0 where
  pub priority : a.priority ≤ b.priority
  pub rank : a.priority ≡ b.priority → a.rank ≤ b.rank

itself : (a : Candidate) → Leads a a
itself a = record { priority = omega arith; rank = λ e. omega arith }

through : (a b c : Candidate) → Leads a b → Leads b c → Leads a c
through a b c h k =
    let l = h.priority in
    let m = k.priority in
    record { priority = omega arith; rank = λ e. (let x = h.rank (omega arith) in let y = k.rank (omega arith) in omega arith) }

before_leads : (a b : Candidate) → before a b ≡ true → Leads a b
before_leads a b h =
    elim (or_cases (nat_lt a.priority b.priority) (nat_eq a.priority b.priority && nat_lt a.rank b.rank) h) [
      | inl p ↦ (let l = ltb-true a.priority b.priority p in record { priority = omega arith; rank = λ e. absurd (omega arith) })
      | inr p ↦ (let q = and_parts (nat_eq a.priority b.priority) (nat_lt a.rank b.rank) p in
          let e = eqb-true a.priority b.priority q.0 in
          let l = ltb-true a.rank b.rank q.1 in
          record { priority = omega arith; rank = λ x. omega arith })
    ]

not_before_leads : (a b : Candidate) → before b a ≡ false → Leads a b
not_before_leads a b h =
    let q = or_parts (nat_lt b.priority a.priority) (nat_eq b.priority a.priority && nat_lt b.rank a.rank) h in
    let l = ltb-false b.priority a.priority q.0 in
    record {
      priority = l;
      rank = λ e. elim (and_cases (nat_eq b.priority a.priority) (nat_lt b.rank a.rank) q.1) [
        | inl n ↦ absurd (eqb-false b.priority a.priority n (sym e))
        | inr n ↦ ltb-false b.rank a.rank n
      ];
    }

least_leads : (a : Candidate) (bs : List Candidate) → Leads (least_of a bs) a × Each (Leads (least_of a bs)) bs
least_leads a [] = (itself a, tt)
least_leads a (b ∷ bs) = go (before b a) refl (λ m. least_leads m bs)
  where
    go : (x : Bool) → before b a ≡ x → ((m : Candidate) → Leads (least_of m bs) m × Each (Leads (least_of m bs)) bs) → Leads (least_of (if x then b else a) bs) a × (Leads (least_of (if x then b else a) bs) b × Each (Leads (least_of (if x then b else a) bs)) bs)
    go true e known = let k = known b in (through _ b a k.0 (before_leads b a e), (k.0, k.1))
    go false e known = let k = known a in (k.0, (through _ a b k.0 (not_before_leads a b e), k.1))

-- ---- the candidates

abbrev pub candidate_at : List TaskDef → ℕ → ℕ → TaskState → Candidate
candidate_at ds i k u = record { task = i + k; priority = (slice_index_or ds k no_task).priority; rank = u.rank }

-- each task that is up is a candidate
pub each_here : (Q : Candidate → Type 0) (i : ℕ) (ds : List TaskDef) (us : List (Option TaskState)) (k : ℕ) (v : TaskState) → Each Q (candidates i ds us) → k < length ds → slice_index_or us k None ≡ Some v → Q (candidate_at ds i k v)
each_here Q i [] us k v h l e = absurd (omega arith)
each_here Q i (d ∷ ds) [] k v h l e = absurd (cc e)
each_here Q i (d ∷ ds) (u ∷ us) zero v h l e =
    let r = each_parts Q (candidate i d u) (candidates (i + 1) ds us) h in
    let s : Each Q (candidate i d (Some v)) = subst (λ (o : Option TaskState). Each Q (candidate i d o)) e r.0 in
    let n : i ≡ i + 0 = omega arith in
    subst (λ (j : ℕ). Q (record { task = j; priority = d.priority; rank = v.rank })) n s.0
each_here Q i (d ∷ ds) (u ∷ us) (suc k) v h l e =
    let r = each_parts Q (candidate i d u) (candidates (i + 1) ds us) h in
    let n : i + 1 + k ≡ i + suc k = omega arith in
    subst (λ (j : ℕ). Q (record { task = j; priority = (slice_index_or ds k no_task).priority; rank = v.rank })) n (each_here Q (i + 1) ds us k v r.1 (omega arith) e)

-- each candidate is a task that is up
pub record IsCandidate (ds : List TaskDef) (us : List (Option TaskState)) (i : ℕ) (c : Candidate) : Type 0 where
  pub place : ℕ
  pub state : TaskState
  pub up : slice_index_or us place None ≡ Some state
  pub number : c.task ≡ i + place
  pub priority : c.priority ≡ (slice_index_or ds place no_task).priority
  pub rank : c.rank ≡ state.rank

later : (d : TaskDef) (u : Option TaskState) (ds : List TaskDef) (us : List (Option TaskState)) (i : ℕ) (c : Candidate) → IsCandidate ds us (i + 1) c → IsCandidate (d ∷ ds) (u ∷ us) i c
later d u ds us i c h = let n = h.number in record { place = suc h.place; state = h.state; up = h.up; number = omega arith; priority = h.priority; rank = h.rank }

each_later : (d : TaskDef) (u : Option TaskState) (ds : List TaskDef) (us : List (Option TaskState)) (i : ℕ) (cs : List Candidate) → Each (IsCandidate ds us (i + 1)) cs → Each (IsCandidate (d ∷ ds) (u ∷ us) i) cs
each_later d u ds us i [] h = tt
each_later d u ds us i (c ∷ cs) h = (later d u ds us i c h.0, each_later d u ds us i cs h.1)

candidates_are : (i : ℕ) (ds : List TaskDef) (us : List (Option TaskState)) → Each (IsCandidate ds us i) (candidates i ds us)
candidates_are i [] us = tt
candidates_are i (d ∷ ds) [] = tt
candidates_are i (d ∷ ds) (None ∷ us) = each_later d None ds us i (candidates (i + 1) ds us) (candidates_are (i + 1) ds us)
candidates_are i (d ∷ ds) (Some u ∷ us) =
    (record { place = 0; state = u; up = refl; number = omega arith; priority = refl; rank = refl }, each_later d (Some u) ds us i (candidates (i + 1) ds us) (candidates_are (i + 1) ds us))

least_in : (P : Candidate → Type 0) (a : Candidate) (bs : List Candidate) → P a → Each P bs → P (least_of a bs)
least_in P a [] h k = h
least_in P a (b ∷ bs) h k = go (before b a) (λ m p. least_in P m bs p k.1)
  where
    go : (x : Bool) → ((m : Candidate) → P m → P (least_of m bs)) → P (least_of (if x then b else a) bs)
    go true known = known b k.0
    go false known = known a h

-- ---- the chosen task

-- the least of candidates, by its task
record IsLeast (P : Candidate → Type 0) (cs : List Candidate) (t : ℕ) : Type 0 where
  who : Candidate
  is : who.task ≡ t
  holds : P who
  leads : Each (Leads who) cs

least_is : (P : Candidate → Type 0) (cs : List Candidate) (t : ℕ) → Each P cs → least cs ≡ Some t → IsLeast P cs t
least_is P [] t h e = absurd (cc e)
least_is P (c ∷ cs) t h e = let l = least_leads c cs in record { who = least_of c cs; is = same_Some _ t e; holds = least_in P c cs h.0 h.1; leads = (l.0, l.1) }

-- nothing is open, and t leads all up tasks
pub record IsLeastUp (s : Table) (t : ℕ) : Type 0 where
  pub state : TaskState
  pub up : state_of s t ≡ Some state
  pub closed : (q : ℕ) → is_open (state_of s q) ≡ false
  pub leads : (q : ℕ) (v : TaskState) → q < length s.defs → state_of s q ≡ Some v → ((task s t).priority ≤ (task s q).priority) × ((task s t).priority ≡ (task s q).priority → state.rank ≤ v.rank)

least_up_of : (s : Table) (t : ℕ) → position_from is_open 0 s.states ≡ None → least (candidates 0 s.defs s.states) ≡ Some t → IsLeastUp s t
least_up_of s t none h =
    let l = least_is (IsCandidate s.defs s.states 0) (candidates 0 s.defs s.states) t (candidates_are 0 s.defs s.states) h in
    let c = l.holds in
    let e : c.place ≡ t = (let x = c.number in let y = l.is in omega arith) in
    record {
      state = c.state;
      up = subst (λ n. state_of s n ≡ Some c.state) e c.up;
      closed = λ q. none_found is_open None s.states 0 q refl none;
      leads = λ q v lt up. (let r = each_here (Leads l.who) 0 s.defs s.states q v l.leads lt up in
          let p = r.priority in
          let pr = c.priority in
          let rk = c.rank in
          let f = r.rank in
          let same : (slice_index_or s.defs c.place no_task).priority ≡ (task s t).priority = ap (λ n. (task s n).priority) e in
          (omega arith, λ x. (let y = f (omega arith) in omega arith)));
    }

-- the chosen task has something open, or leads all
pub chosen_is : (s : Table) (t : ℕ) → chosen s ≡ Some t → (is_open (state_of s t) ≡ true) ⊎ IsLeastUp s t
chosen_is s t h = go (position_from is_open 0 s.states) refl h
  where
    go : (o : Option ℕ) → position_from is_open 0 s.states ≡ o → or_else o (least (candidates 0 s.defs s.states)) ≡ Some t → (is_open (state_of s t) ≡ true) ⊎ IsLeastUp s t
    go (Some x) e g = inl (found is_open None s.states t (e ∙ g)).1
    go None e g = inr (least_up_of s t e g)

-- where none is chosen, none is up
pub none_chosen : (s : Table) (q : ℕ) (v : TaskState) → chosen s ≡ None → q < length s.defs → state_of s q ≡ Some v → ⊥
none_chosen s q v h l up = go (position_from is_open 0 s.states) (candidates 0 s.defs s.states) h (λ Q k. each_here Q 0 s.defs s.states q v k l up)
  where
    go : (o : Option ℕ) (cs : List Candidate) → or_else o (least cs) ≡ None → ((Q : Candidate → Type 0) → Each Q cs → Q (candidate_at s.defs 0 q v)) → ⊥
    go (Some x) cs e k = absurd (cc e)
    go None [] e k = k (λ c. ⊥) tt
    go None (c ∷ cs) e k = absurd (cc e)
