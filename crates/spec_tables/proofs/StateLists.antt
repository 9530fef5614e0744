-- What a change of one task's state leaves, and what is known of the chosen task.
use Rattle.std.proofs.Common.{◌≡◌, ℕ, zero, suc, ◌+◌, ◌<◌, Bool, true, false, cond, List, [], ◌∷◌, length, Option, Some, None, map, ◌⊎◌, inl, inr, refl, sym, ◌∙◌, ap, subst, arith}
use Rattle.std.specs.Prelude.{slice_set, slice_index_or}
use Rattle.std.specs.List.{position_from}
use Rattle.std.proofs.lemmas.Bool.{false≢true}
-- what stands in a `Some` is one value
use Rattle.std.proofs.lemmas.Option.{same_Some}
use Rattle.spec_tables.specs.declared.task.TaskDef.{TaskDef}
use Rattle.spec_tables.specs.Tasks.{TaskState, Table, Candidate, state_of, is_open, chosen, or_else, least, least_of, before, candidates}

-- ---- one state changed

-- a state after a change of state t is the new one, or it was there before
pub after_set : (us : List (Option TaskState)) (t q : ℕ) (x : Option TaskState) (v : TaskState) → slice_index_or (slice_set us t x) q None ≡ Some v → ((q ≡ t) × (x ≡ Some v)) ⊎ (slice_index_or us q None ≡ Some v)
after_set [] t q x v h = inr h
after_set (u ∷ us) zero zero x v h = inl (refl, h)
after_set (u ∷ us) zero (suc q) x v h = inr h
after_set (u ∷ us) (suc t) zero x v h = inr h
after_set (u ∷ us) (suc t) (suc q) x v h = elim (after_set us t q x v h) [ inl p ↦ inl (ap suc p.0, p.1) | inr p ↦ inr p ]

-- none is up if all are down
pub none_up : {A : Type 0} (us : List A) (t : ℕ) (v : TaskState) → slice_index_or (map (λ u. let x : Option TaskState = None in x) us) t None ≡ Some v → ⊥
none_up [] t v h = let f : None ≡ Some v → ⊥ = λ p. cc in f h
none_up (u ∷ us) zero v h = let f : None ≡ Some v → ⊥ = λ p. cc in f h
none_up (u ∷ us) (suc t) v h = none_up us t v h

-- what can be no `Some` is None, as a copy of None is
pub none_alone : {X : Type 0} (P : Option X → Type 0) → ((x : X) → P (Some x) → ⊥) → (o : Option X) → P o → o ≡ None
none_alone P never None h = refl
none_alone P never (Some x) h = absurd (never x h)

-- ---- the first place at which a test passes

-- place k of the list, where the first is number i
record FoundAt {X : Type 0} (test : X → Bool) (d : X) (xs : List X) (i t : ℕ) : Type 0 where
  place : ℕ
  number : t ≡ i + place
  within : place < length xs
  passes : test (slice_index_or xs place d) ≡ true

found_by : {X : Type 0} (test : X → Bool) (d x : X) (xs : List X) (i t : ℕ) (b : Bool) → test x ≡ b → (position_from test (i + 1) xs ≡ Some t → FoundAt test d xs (i + 1) t) → cond b (Some i) (position_from test (i + 1) xs) ≡ Some t → FoundAt test d (x ∷ xs) i t
found_by test d x xs i t true e rest h = let n = same_Some i t h in record { place = 0; number = omega arith; within = omega arith; passes = e }
found_by test d x xs i t false e rest h =
    let p = rest h in
    let n = p.number in
    let l = p.within in
    record { place = suc p.place; number = omega arith; within = omega arith; passes = p.passes }

found_from : {X : Type 0} (test : X → Bool) (d : X) (xs : List X) (i t : ℕ) → position_from test i xs ≡ Some t → FoundAt test d xs i t
found_from test d [] i t h = absurd (cc)
found_from test d (x ∷ xs) i t h = found_by test d x xs i t (test x) refl (λ r. found_from test d xs (i + 1) t r) h

-- it is a place of the list, and the test passes there
pub found : {X : Type 0} (test : X → Bool) (d : X) (xs : List X) (t : ℕ) → position_from test 0 xs ≡ Some t → (t < length xs) × (test (slice_index_or xs t d) ≡ true)
found test d xs t h =
    let p = found_from test d xs 0 t h in
    let n : p.place ≡ t = (let e = p.number in omega arith) in
    subst (λ k. (k < length xs) × (test (slice_index_or xs k d) ≡ true)) n (p.within, p.passes)

-- if there is none, the test passes nowhere
none_found_by : {X : Type 0} (test : X → Bool) (d x : X) (xs : List X) (i k : ℕ) (b : Bool) → test x ≡ b → ((j : ℕ) → position_from test (i + 1) xs ≡ None → test (slice_index_or xs j d) ≡ false) → cond b (Some i) (position_from test (i + 1) xs) ≡ None → test (slice_index_or (x ∷ xs) k d) ≡ false
none_found_by test d x xs i k true e rest h = absurd (cc)
none_found_by test d x xs i zero false e rest h = e
none_found_by test d x xs i (suc k) false e rest h = rest k h

pub none_found : {X : Type 0} (test : X → Bool) (d : X) (xs : List X) (i k : ℕ) → test d ≡ false → position_from test i xs ≡ None → test (slice_index_or xs k d) ≡ false
none_found test d [] i k shut h = shut
none_found test d (x ∷ xs) i k shut h = none_found_by test d x xs i k (test x) refl (λ j r. none_found test d xs (i + 1) j shut r) h

-- ---- the chosen task

-- which of two options has the value
of_two : (o other : Option ℕ) (t : ℕ) → or_else o other ≡ Some t → (o ≡ Some t) ⊎ ((o ≡ None) × (other ≡ Some t))
of_two (Some x) other t h = inl h
of_two None other t h = inr (refl, h)

open_up : (o : Option TaskState) → is_open o ≡ true → (u : TaskState) × (o ≡ Some u)
open_up None e = absurd (false≢true e)
open_up (Some u) e = (u, refl)

-- a candidate of these states, the first of which is number i, is up
abbrev UpAt : List (Option TaskState) → ℕ → ℕ → Type 0
UpAt us i t = (k : ℕ) × (u : TaskState) × (t ≡ i + k) × (slice_index_or us k None ≡ Some u)

abbrev Each : (ℕ → Type 0) → List Candidate → Type 0
Each Q [] = Unit {0}
Each Q (c ∷ cs) = Q c.task × Each Q cs

each_of : (Q : ℕ → Type 0) (b : Bool) (x y : Candidate) → Q x.task → Q y.task → Q (cond b x y).task
each_of Q true x y p q = p
each_of Q false x y p q = q

least_in : (Q : ℕ → Type 0) (a : Candidate) (bs : List Candidate) → Q a.task → Each Q bs → Q (least_of a bs).task
least_in Q a [] p q = p
least_in Q a (b ∷ bs) p q = least_in Q (cond (before b a) b a) bs (each_of Q (before b a) b a q.0 p) q.1

weaker : (Q R : ℕ → Type 0) → ((t : ℕ) → Q t → R t) → (cs : List Candidate) → Each Q cs → Each R cs
weaker Q R f [] h = tt
weaker Q R f (c ∷ cs) h = (f c.task h.0, weaker Q R f cs h.1)

up_later : (x : Option TaskState) (us : List (Option TaskState)) (i t : ℕ) → UpAt us (i + 1) t → UpAt (x ∷ us) i t
up_later x us i t p = (suc p.0, p.1, (let e = p.2 in omega arith), p.3)

pub each_up : (i : ℕ) (ds : List TaskDef) (us : List (Option TaskState)) → Each (UpAt us i) (candidates i ds us)
each_up i [] us = tt
each_up i (d ∷ ds) [] = tt
each_up i (d ∷ ds) (None ∷ us) = weaker (UpAt us (i + 1)) (UpAt (None ∷ us) i) (up_later None us i) (candidates (i + 1) ds us) (each_up (i + 1) ds us)
each_up i (d ∷ ds) (Some u ∷ us) = ((0, u, omega arith, refl), weaker (UpAt us (i + 1)) (UpAt (Some u ∷ us) i) (up_later (Some u) us i) (candidates (i + 1) ds us) (each_up (i + 1) ds us))

least_up : (Q : ℕ → Type 0) (cs : List Candidate) (t : ℕ) → Each Q cs → least cs ≡ Some t → Q t
least_up Q [] t h e = let f : None ≡ Some t → ⊥ = λ p. cc in absurd (f e)
least_up Q (c ∷ cs) t h e = subst Q (same_Some (least_of c cs).task t e) (least_in Q c cs h.0 h.1)

-- the chosen task is up
abbrev pub IsUp : Table → ℕ → Type 0
IsUp s t = (u : TaskState) × (state_of s t ≡ Some u)

at_zero : (us : List (Option TaskState)) (k t : ℕ) (u : TaskState) → t ≡ 0 + k → slice_index_or us k None ≡ Some u → slice_index_or us t None ≡ Some u
at_zero us k t u e h = subst (λ n. slice_index_or us n None ≡ Some u) (let e' : k ≡ t = omega arith in e') h

pub chosen_up : (s : Table) (t : ℕ) → chosen s ≡ Some t → IsUp s t
chosen_up s t h =
    elim (of_two (position_from is_open 0 s.states) (least (candidates 0 s.defs s.states)) t h) [
      | inl e ↦ open_up (state_of s t) (found is_open None s.states t e).1
      | inr e ↦ (let p = least_up (UpAt s.states 0) (candidates 0 s.defs s.states) t (each_up 0 s.defs s.states) e.1 in (p.1, at_zero s.states p.0 t p.1 p.2 p.3))
    ]

-- if a task has something open, so has the chosen one
pub chosen_open : (s : Table) (t q : ℕ) (v : TaskState) → chosen s ≡ Some t → state_of s q ≡ Some v → is_open (Some v) ≡ true → (u : TaskState) × (state_of s t ≡ Some u) × (is_open (Some u) ≡ true)
chosen_open s t q v h g o =
    elim (of_two (position_from is_open 0 s.states) (least (candidates 0 s.defs s.states)) t h) [
      | inl e ↦
          let f = (found is_open None s.states t e).1 in
          let u = open_up (state_of s t) f in
          (u.0, u.1, sym (ap is_open u.1) ∙ f)
      | inr e ↦ absurd (false≢true (sym (none_found is_open None s.states 0 q refl e.0) ∙ (ap is_open g ∙ o)))
    ]
