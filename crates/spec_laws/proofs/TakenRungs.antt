-- The first edit that takes a rung again is the first by what is counted.
use Rattle.std.proofs.Common.{◌≡◌, ℕ, zero, suc, ◌+◌, ◌<◌, inl, inr, Bool, true, false, cond, List, [], ◌∷◌, take, Option, Some, None, refl, sym, ◌∙◌, ap, subst, arith}
use Rattle.std.specs.Prelude.{◌||◌, nat_eq, nat_lt, flat_map}
use Rattle.std.specs.List.{count_by, list_any}
use Rattle.std.proofs.lemmas.Bool.{cases_lt, eq-eqb, eqb-true, lt-ltb, ltb-true, false≢true}
use Rattle.std.proofs.lemmas.List.Concat.{flat_map-cons}
use Rattle.std.proofs.lemmas.List.Folds.{list_any-append}
use Rattle.std.proofs.Math.Seq.{take-nil}
use Rattle.spec_machine.specs.declared.event.RungEdit.{RungEdit}
use Rattle.spec_machine.specs.declared.event.RungEdit.TheVariants.{Replace, Insert, Delete}
use Rattle.spec_machine.specs.Edits.{Change, Replaced, Inserted, Deleted, taken_by, first_again}
use Rattle.spec_laws.specs.TakenRungs.{takes_rung, took_rung, TakesAgain, IsFirstAgain, AgainIsCounted}
use Rattle.spec_laws.proofs.Numbers.{count-cons}

-- ---- over counts of what is taken before

abbrev so_far : (ℕ → ℕ) → List RungEdit → ℕ → ℕ → ℕ
so_far c es k i = c i + count_by (takes_rung i) (take k es)

record Again (c : ℕ → ℕ) (es : List RungEdit) (k : ℕ) : Type 0 where
  rung : ℕ
  taken : 0 < so_far c es k rung
  takes : so_far c es k rung < so_far c es (suc k) rung

-- the first of them, where they are numbered from n on
abbrev First : ℕ → (ℕ → ℕ) → List RungEdit → Option ℕ → Type 0
First n c es None = (k : ℕ) → Again c es k → ⊥
First n c es (Some m) = (k : ℕ) × (m ≡ n + k) × Again c es k × ((j : ℕ) → j < k → Again c es j → ⊥)

-- which rungs are taken is counted
abbrev IsCount : (ℕ → ℕ) → List ℕ → Type 0
IsCount c ts = (i : ℕ) → list_any (nat_eq i) ts ≡ nat_lt 0 (c i)

none_left : (c : ℕ → ℕ) (k : ℕ) → Again c [] k → ⊥
none_left c k a =
    let l = a.takes in
    let x = ap (count_by (takes_rung a.rung)) (take-nil k) in
    let y = ap (count_by (takes_rung a.rung)) (take-nil (suc k)) in
    absurd (omega arith)

-- ---- one edit more

module _ (c : ℕ → ℕ) (e : RungEdit) (es : List RungEdit) where
  abbrev more : ℕ → ℕ
  more i = c i + cond (takes_rung i e) 1 0

  one_on : (k i : ℕ) → so_far c (e ∷ es) (suc k) i ≡ so_far more es k i
  one_on k i = let x = count-cons (takes_rung i) e (take k es) in omega arith

  forth : (k : ℕ) → Again more es k → Again c (e ∷ es) (suc k)
  forth k a = record {
    rung = a.rung;
    taken = subst (λ n. 0 < n) (sym (one_on k a.rung)) a.taken;
    takes = (let x = one_on k a.rung in let y = one_on (suc k) a.rung in let l = a.takes in omega arith);
  }

  back : (k : ℕ) → Again c (e ∷ es) (suc k) → Again more es k
  back k a = record {
    rung = a.rung;
    taken = subst (λ n. 0 < n) (one_on k a.rung) a.taken;
    takes = (let x = one_on k a.rung in let y = one_on (suc k) a.rung in let l = a.takes in omega arith);
  }

  -- how much the edit itself adds
  at_head : (i : ℕ) → so_far c (e ∷ es) (suc zero) i ≡ c i + cond (takes_rung i e) 1 0
  at_head i = one_on zero i ∙ (let z : more i + 0 ≡ c i + cond (takes_rung i e) 1 0 = omega arith in z)

  here : (i : ℕ) → 0 < c i → takes_rung i e ≡ true → Again c (e ∷ es) zero
  here i l t = record { rung = i; taken = omega arith; takes = (let x = at_head i ∙ ap (λ b. c i + cond b 1 0) t in omega arith) }

  not_here : ((i : ℕ) → takes_rung i e ≡ true → nat_lt 0 (c i) ≡ false) → Again c (e ∷ es) zero → ⊥
  not_here none a = go (takes_rung a.rung e) refl
    where
      go : (b : Bool) → takes_rung a.rung e ≡ b → ⊥
      go true t = (let l : 0 < c a.rung = (let x = a.taken in omega arith) in false≢true (sym (none a.rung t) ∙ lt-ltb 0 (c a.rung) l))
      go false t = (let x = at_head a.rung ∙ ap (λ b. c a.rung + cond b 1 0) t in let l = a.takes in absurd (omega arith))

  later : (n : ℕ) (o : Option ℕ) → ((i : ℕ) → takes_rung i e ≡ true → nat_lt 0 (c i) ≡ false) → First (n + 1) more es o → First n c (e ∷ es) o
  later n None none f = go
    where
      go : (k : ℕ) → Again c (e ∷ es) k → ⊥
      go zero a = not_here none a
      go (suc k) a = f k (back k a)
  later n (Some m) none f = (suc f.0, (let x = f.1 in omega arith), forth f.0 f.2, go)
    where
      go : (j : ℕ) → j < suc f.0 → Again c (e ∷ es) j → ⊥
      go zero l a = not_here none a
      go (suc j) l a = f.3 j (omega arith) (back j a)

  -- ---- by whether the edit takes a rung

  or_false : (x b : Bool) → (x || false) ≡ b → x ≡ b
  or_false true b h = h
  or_false false b h = h

  count_more : (ts : List ℕ) (i : ℕ) → ((j : ℕ) → takes_rung j e ≡ nat_eq j i) → IsCount c ts → IsCount more (i ∷ ts)
  count_more ts i is h j = go (nat_eq j i) refl
    where
      go : (b : Bool) → nat_eq j i ≡ b → (b || list_any (nat_eq j) ts) ≡ nat_lt 0 (more j)
      go true q = sym (lt-ltb 0 (more j) (let x = ap (λ b. c j + cond b 1 0) (is j ∙ q) in omega arith))
      go false q = h j ∙ ap (nat_lt 0) (let x = ap (λ b. c j + cond b 1 0) (is j ∙ q) in let z : c j ≡ more j = omega arith in z)

  taking : (n : ℕ) (ts : List ℕ) (i : ℕ) → ((j : ℕ) → takes_rung j e ≡ nat_eq j i) → IsCount c ts → First (n + 1) more es (first_again (n + 1) (i ∷ ts) es) → (b : Bool) → (list_any (nat_eq i) ts || false) ≡ b → First n c (e ∷ es) (cond b (Some n) (first_again (n + 1) (i ∷ ts) es))
  taking n ts i is h f true q =
      (zero, omega arith, here i (ltb-true 0 (c i) (sym (h i) ∙ or_false (list_any (nat_eq i) ts) true q)) (is i ∙ eq-eqb i i refl), λ j l a. absurd (omega arith))
  taking n ts i is h f false q =
      later n (first_again (n + 1) (i ∷ ts) es)
      (λ j t. (let same : j ≡ i = eqb-true j i (sym (is j) ∙ t) in ap (λ k. nat_lt 0 (c k)) same ∙ (sym (h i) ∙ or_false (list_any (nat_eq i) ts) false q))) f

walk : (n : ℕ) (ts : List ℕ) (c : ℕ → ℕ) (es : List RungEdit) → IsCount c ts → First n c es (first_again n ts es)
walk n ts c [] h = none_left c
walk n ts c (Replace i text ∷ es) h =
    let e = Replace i text in
    taking c e es n ts i (λ j. refl) h (walk (n + 1) (i ∷ ts) (more c e es) es (count_more c e es ts i (λ j. refl) h)) (list_any (nat_eq i) ts || false) refl
walk n ts c (Delete i ∷ es) h =
    let e = Delete i in
    taking c e es n ts i (λ j. refl) h (walk (n + 1) (i ∷ ts) (more c e es) es (count_more c e es ts i (λ j. refl) h)) (list_any (nat_eq i) ts || false) refl
walk n ts c (Insert i text ∷ es) h =
    let e = Insert i text in
    later c e es n (first_again (n + 1) ts es) (λ j t. absurd (cc t))
    (walk (n + 1) ts (more c e es) es (λ j. h j ∙ ap (nat_lt 0) (let z : c j ≡ c j + 0 = omega arith in z)))

-- ---- what is accepted before

abbrev count_of : List Change → ℕ → ℕ
count_of changes i = count_by (took_rung i) changes

module _ (x : Change) (xs : List Change) where
  one_more : (i : ℕ) (ts : List ℕ) (b : Bool) → took_rung i x ≡ b → taken_by x ≡ ts → list_any (nat_eq i) ts ≡ b → list_any (nat_eq i) (flat_map taken_by xs) ≡ nat_lt 0 (count_of xs i) → list_any (nat_eq i) (flat_map taken_by (x ∷ xs)) ≡ nat_lt 0 (count_of (x ∷ xs) i)
  one_more i ts b t s a h =
      ap (list_any (nat_eq i)) (flat_map-cons taken_by x xs)
      ∙ (list_any-append (nat_eq i) (taken_by x) (flat_map taken_by xs)
      ∙ (ap (λ (zs : List ℕ). list_any (nat_eq i) zs || list_any (nat_eq i) (flat_map taken_by xs)) s
      ∙ (ap (λ z. z || list_any (nat_eq i) (flat_map taken_by xs)) a ∙ go b t)))
    where
      go : (b : Bool) → took_rung i x ≡ b → (b || list_any (nat_eq i) (flat_map taken_by xs)) ≡ nat_lt 0 (count_of (x ∷ xs) i)
      go true t = sym (lt-ltb 0 (count_of (x ∷ xs) i) (let y = count-cons (took_rung i) x xs ∙ ap (λ b. cond b 1 0 + count_of xs i) t in omega arith))
      go false t = h ∙ ap (nat_lt 0) (let y = count-cons (took_rung i) x xs ∙ ap (λ b. cond b 1 0 + count_of xs i) t in let z : count_of xs i ≡ count_of (x ∷ xs) i = omega arith in z)

alone : (i k : ℕ) → list_any (nat_eq i) (k ∷ []) ≡ nat_eq i k
alone i k = go (nat_eq i k)
  where
    go : (b : Bool) → (b || false) ≡ b
    go true = refl
    go false = refl

pub taken_counted : (changes : List Change) → IsCount (count_of changes) (flat_map taken_by changes)
taken_counted [] i = refl
taken_counted (Replaced k new ∷ xs) i = one_more (Replaced k new) xs i (k ∷ []) (nat_eq i k) refl refl (alone i k) (taken_counted xs i)
taken_counted (Deleted k ∷ xs) i = one_more (Deleted k) xs i (k ∷ []) (nat_eq i k) refl refl (alone i k) (taken_counted xs i)
taken_counted (Inserted k new ∷ xs) i = one_more (Inserted k new) xs i [] false refl refl refl (taken_counted xs i)

-- ---- the first

module _ (changes : List Change) (edits : List RungEdit) where
  of_walk : (k : ℕ) → Again (count_of changes) edits k → TakesAgain changes edits k
  of_walk k a = record { rung = a.rung; taken = a.taken; takes = a.takes }

  to_walk : (k : ℕ) → TakesAgain changes edits k → Again (count_of changes) edits k
  to_walk k a = record { rung = a.rung; taken = a.taken; takes = a.takes }

  by_walk : (o : Option ℕ) → First 0 (count_of changes) edits o → IsFirstAgain changes edits o
  by_walk None f = λ k a. f k (to_walk k a)
  by_walk (Some m) f =
      let same : f.0 ≡ m = (let x = f.1 in omega arith) in
      subst (λ k. IsFirstAgain changes edits (Some k)) same (of_walk f.0 f.2, λ j l a. f.3 j l (to_walk j a))

  pub is_first : IsFirstAgain changes edits (first_again 0 (flat_map taken_by changes) edits)
  is_first = by_walk (first_again 0 (flat_map taken_by changes) edits) (walk 0 (flat_map taken_by changes) (count_of changes) edits (taken_counted changes))

  -- there is but one
  one_first : (o w : Option ℕ) → IsFirstAgain changes edits o → IsFirstAgain changes edits w → o ≡ w
  one_first None None f g = refl
  one_first None (Some k) f g = absurd (f k g.0)
  one_first (Some k) None f g = absurd (g k f.0)
  one_first (Some j) (Some k) f g =
      elim (cases_lt j k) [
        | inl l ↦ absurd (g.1 j l f.0)
        | inr r ↦ elim (cases_lt k j) [ inl l ↦ absurd (f.1 k l g.0) | inr s ↦ ap (λ (n : ℕ). Some n) (omega arith) ]
      ]

pub again_is_counted : AgainIsCounted
again_is_counted changes edits o =
    (λ e. subst (IsFirstAgain changes edits) e (is_first changes edits), λ h. one_first changes edits (first_again 0 (flat_map taken_by changes) edits) o (is_first changes edits) h)
