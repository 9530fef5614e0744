-- An accept that is taken leaves no rung taken twice.
use Rattle.std.proofs.Common.{◌≡◌, ℕ, zero, suc, ◌+◌, ◌≤◌, inl, inr, Bool, true, false, cond, List, [], ◌∷◌, ◌++◌, length, take, Option, Some, None, ◌⊎◌, refl, sym, ◌∙◌, ap, subst, arith}
use Rattle.std.specs.Prelude.{Result, Ok, Err, nat_eq, nat_le, if◌then◌else◌, map, filter_map, flat_map}
use Rattle.std.specs.List.{cons_option, count_by, position_from}
use Rattle.std.proofs.lemmas.Bool.{cases_eq, cases_lt, eq-eqb, ne_eqb}
use Rattle.std.proofs.lemmas.List.Elements.{filter_map-append}
use Rattle.std.proofs.lemmas.List.Sums.{sum_by-append}
use Rattle.spec_base.specs.FirstCause.{◌>>=◌, unless}
use Rattle.spec_base.proofs.Binds.{bind_ok, ok_inj, err_not_ok}
use Rattle.spec_base.specs.declared.limits.TheConstants.{MAX_PROGRAM_INSTRUCTIONS}
use Rattle.lgx_rung.specs.Tree.{Source}
use Rattle.spec_language.specs.Checked.{CheckScope, checked}
use Rattle.spec_machine.specs.declared.event.RungEdit.{RungEdit}
use Rattle.spec_machine.specs.declared.event.RungEdit.TheVariants.{Replace, Insert, Delete}
use Rattle.spec_machine.specs.declared.reply.EditFault.{EditFault}
use Rattle.spec_machine.specs.declared.reply.EditFault.TheVariants.{E3, E5, E6, E8, E9}
use Rattle.spec_machine.specs.Edits.{Change, Replaced, Inserted, Deleted, AcceptedEdit, Book, taken_by, first_again, change_in, changes_in, change_of, changes_of, read_or_cause, routine_at, with_changes, other_owner, is_misplaced, instruction_count, none_or, ok_or_cause, accept_in}
use Rattle.spec_reach.proofs.EditNames.{source_with}
use Rattle.spec_scan.specs.Position.{Rungs}
use Rattle.spec_laws.specs.TakenRungs.{takes_rung, took_rung, takers, TakesAgain, IsFirstAgain}
use Rattle.spec_laws.proofs.Numbers.{count-cons}
use Rattle.spec_laws.proofs.TakenRungs.{is_first}

abbrev pub TakesOnce : Book → Type 0
TakesOnce b = (r i : ℕ) → count_by (took_rung i) (changes_in b r) ≤ 1

count-append : {A : Type 0} (p : A → Bool) (xs ys : List A) → count_by p (xs ++ ys) ≡ count_by p xs + count_by p ys
count-append p xs ys = sum_by-append (λ y. cond (p y) 1 0) xs ys

-- ---- the changes of the edits take what the edits take

one_change : (k i : ℕ) (e : RungEdit) (c : Change) → change_of k e ≡ Ok c → took_rung i c ≡ takes_rung i e
one_change k i (Replace n text) c h = go (read_or_cause k text) h
  where
    go : (x : Result Source EditFault) → (x >>= λ new. Ok (Replaced n new)) ≡ Ok c → took_rung i c ≡ nat_eq i n
    go (Ok new) h = ap (took_rung i) (sym (ok_inj (Replaced n new) c h))
    go (Err f) h = err_not_ok f c h
one_change k i (Insert n text) c h = go (read_or_cause k text) h
  where
    go : (x : Result Source EditFault) → (x >>= λ new. Ok (Inserted n new)) ≡ Ok c → took_rung i c ≡ false
    go (Ok new) h = ap (took_rung i) (sym (ok_inj (Inserted n new) c h))
    go (Err f) h = err_not_ok f c h
one_change k i (Delete n) c h = ap (took_rung i) (sym (ok_inj (Deleted n) c h))

-- the number of edits that take rung i is that of their changes
same_count : (k i : ℕ) (es : List RungEdit) (cs : List Change) → changes_of k es ≡ Ok cs → count_by (took_rung i) cs ≡ count_by (takes_rung i) es
same_count k i [] cs h = ap (count_by (took_rung i)) (sym (ok_inj [] cs h))
same_count k i (e ∷ es) cs h =
    let h1 = bind_ok (change_of k e) (λ c. changes_of (k + 1) es >>= λ cs. Ok (c ∷ cs)) cs h in
    let h2 = bind_ok (changes_of (k + 1) es) (λ rest. Ok (h1.0 ∷ rest)) cs h1.2 in
    ap (count_by (took_rung i)) (sym (ok_inj (h1.0 ∷ h2.0) cs h2.2))
    ∙ (count-cons (took_rung i) h1.0 h2.0
    ∙ (ap (λ b. cond b 1 0 + count_by (took_rung i) h2.0) (one_change k i e h1.0 h1.1)
    ∙ (ap (λ n. cond (takes_rung i e) 1 0 + n) (same_count (k + 1) i es h2.0 h2.1) ∙ sym (count-cons (takes_rung i) e es))))

-- ---- no edit takes a rung again

one_more : (p : RungEdit → Bool) (es : List RungEdit) (k : ℕ) → count_by p (take (suc k) es) ≤ count_by p (take k es) + 1
one_more p [] zero = omega arith
one_more p [] (suc k) = omega arith
one_more p (e ∷ es) zero = (let c = count-cons p e [] in at_most (p e) c)
  where
    at_most : (b : Bool) → count_by p (e ∷ []) ≡ cond b 1 0 + 0 → count_by p (e ∷ []) ≤ 0 + 1
    at_most true c = omega arith
    at_most false c = omega arith
one_more p (e ∷ es) (suc k) = (let r = one_more p es k in let a = count-cons p e (take (suc k) es) in let b = count-cons p e (take k es) in omega arith)

take_all : {A : Type 0} (xs : List A) → take (length xs) xs ≡ xs
take_all [] = refl
take_all (x ∷ xs) = ap (λ ys. x ∷ ys) (take_all xs)

module _ (changes : List Change) (edits : List RungEdit) (none : (k : ℕ) → TakesAgain changes edits k → ⊥) (i : ℕ) (before : count_by (took_rung i) changes ≤ 1) where
  at_most_one : (k : ℕ) → takers changes edits k i ≤ 1
  at_most_one zero = omega arith
  at_most_one (suc k) =
      elim (cases_lt (takers changes edits k i) (takers changes edits (suc k) i)) [
        | inl more ↦ elim (cases_lt 0 (takers changes edits k i)) [
          | inl some ↦ absurd (none k (record { rung = i; taken = some; takes = more }))
          | inr free ↦ (let l = one_more (takes_rung i) edits k in omega arith)
        ]
        | inr same ↦ (let l = at_most_one k in omega arith)
      ]

  all_edits : count_by (took_rung i) changes + count_by (takes_rung i) edits ≤ 1
  all_edits = (let l = at_most_one (length edits) in let e = ap (count_by (takes_rung i)) (take_all edits) in omega arith)

-- ---- the book with the changes

-- an accept's changes are of its routine alone
abbrev edits_of : ℕ → List Change → List AcceptedEdit
edits_of r changes = map (λ c. record { routine = r; change = c }) changes

abbrev if_here : Bool → Change → Option Change
if_here b c = if b then Some c else None

changes_here : (r : ℕ) (changes : List Change) → filter_map (change_in r) (edits_of r changes) ≡ changes
changes_here r [] = refl
changes_here r (c ∷ changes) =
    ap (λ (b : Bool). cons_option (if_here b c) (filter_map (change_in r) (edits_of r changes))) (eq-eqb r r refl) ∙ ap (λ (cs : List Change). c ∷ cs) (changes_here r changes)

changes_elsewhere : (r q : ℕ) (changes : List Change) → (r ≡ q → ⊥) → filter_map (change_in q) (edits_of r changes) ≡ []
changes_elsewhere r q [] ne = refl
changes_elsewhere r q (c ∷ changes) ne =
    ap (λ (b : Bool). cons_option (if_here b c) (filter_map (change_in q) (edits_of r changes))) (ne_eqb r q ne) ∙ changes_elsewhere r q changes ne

module _ (scope : CheckScope) (lane r : ℕ) (edits : List RungEdit) (b : Book) where
  abbrev from_count : List Change → Rungs → Result Book EditFault
  from_count changes rungs =
      let b' = with_changes lane r changes (source_with scope lane r edits b changes) rungs b in
      unless (nat_le (instruction_count b'.merged) MAX_PROGRAM_INSTRUCTIONS) E9 >>= λ _. Ok b'

  abbrev from_merged : List Change → Result Book EditFault
  from_merged changes = ok_or_cause (checked scope (source_with scope lane r edits b changes)) E8 >>= from_count changes

  abbrev from_texts : Result Book EditFault
  from_texts = changes_of 0 edits >>= from_merged

  abbrev again : Option ℕ
  again = first_again 0 (flat_map taken_by (changes_in b r)) edits

  abbrev from_again : Result Book EditFault
  from_again = none_or again E6 >>= λ _. from_texts

  abbrev misplaced : Option ℕ
  misplaced = position_from (is_misplaced (length (routine_at b.base r).source)) 0 edits

  abbrev from_places : Result Book EditFault
  from_places = none_or misplaced E5 >>= λ _. from_again

  -- an accept that is taken: no edit takes a rung again, and the changes are those of the edits
  record IsTaken (c : Book) : Type 0 where
    changes : List Change
    rungs : Rungs
    none : again ≡ None
    read : changes_of 0 edits ≡ Ok changes
    result : with_changes lane r changes (source_with scope lane r edits b changes) rungs b ≡ c

  is_taken : (c : Book) → accept_in scope lane r edits b ≡ Ok c → IsTaken c
  is_taken c h =
      let h1 = bind_ok (none_or (other_owner b lane) E3) (λ _. from_places) c h in
      let h2 = bind_ok (none_or misplaced E5) (λ _. from_again) c h1.2 in
      let h3 = bind_ok (none_or again E6) (λ _. from_texts) c h2.2 in
      let h4 = bind_ok (changes_of 0 edits) from_merged c h3.2 in
      let h5 = bind_ok (ok_or_cause (checked scope (source_with scope lane r edits b h4.0)) E8) (from_count h4.0) c h4.2 in
      let b' = with_changes lane r h4.0 (source_with scope lane r edits b h4.0) h5.0 b in
      let h6 = bind_ok (unless (nat_le (instruction_count b'.merged) MAX_PROGRAM_INSTRUCTIONS) E9) (λ _. Ok b') c h5.2 in
      record { changes = h4.0; rungs = h5.0; none = go again h3.0 h3.1; read = h4.1; result = ok_inj b' c h6.2 }
    where
      go : (o : Option ℕ) (y : Bool) → none_or o E6 ≡ Ok y → o ≡ None
      go None y e = refl
      go (Some k) y e = err_not_ok (E6 k) y e

  by_routine : (changes : List Change) (source : List Source) (rungs : Rungs) → changes_of 0 edits ≡ Ok changes → again ≡ None → TakesOnce b → (q i : ℕ) → (r ≡ q) ⊎ (r ≡ q → ⊥) → count_by (took_rung i) (changes_in (with_changes lane r changes source rungs b) q) ≤ 1
  by_routine changes source rungs read none once q i (inl e) =
      let all = all_edits (changes_in b r) edits (subst (IsFirstAgain (changes_in b r) edits) none (is_first (changes_in b r) edits)) i (once r i) in
      let parts = ap (count_by (took_rung i)) (filter_map-append (change_in r) b.accepted (edits_of r changes) ∙ ap (λ (cs : List Change). changes_in b r ++ cs) (changes_here r changes)) ∙ count-append (took_rung i) (changes_in b r) changes in
      let same = same_count 0 i edits changes read in
      subst (λ k. count_by (took_rung i) (changes_in (with_changes lane r changes source rungs b) k) ≤ 1) e (omega arith)
  by_routine changes source rungs read none once q i (inr ne) =
      let parts = ap (count_by (took_rung i)) (filter_map-append (change_in q) b.accepted (edits_of r changes) ∙ ap (λ (cs : List Change). changes_in b q ++ cs) (changes_elsewhere r q changes ne)) ∙ count-append (took_rung i) (changes_in b q) [] in
      let l = once q i in
      omega arith

  pub accepted_once : (c : Book) → accept_in scope lane r edits b ≡ Ok c → TakesOnce b → TakesOnce c
  accepted_once c h once =
      let x = is_taken c h in
      subst TakesOnce x.result (λ q i. by_routine x.changes (source_with scope lane r edits b x.changes) x.rungs x.read x.none once q i (cases_eq r q))
