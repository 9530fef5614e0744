-- Rungs that are replaced or deleted a second time.
use Rattle.std.proofs.Common.{◌≡◌, ℕ, ◌+◌, ◌<◌, Bool, true, false, cond, ◌||◌, ◌&&◌, List, [], ◌∷◌, ◌++◌, length, get_or, take, drop, map, Some, None, refl, ap, sym, ◌∙◌}
use Rattle.std.specs.Prelude.{nat_eq, filter_map, flat_map}
use Rattle.std.specs.List.{list_any, cons_option}
use Rattle.std.proofs.lemmas.List.{take_more, drop_more}
use Rattle.spec_machine.specs.declared.event.RungEdit.{RungEdit}
use Rattle.spec_machine.specs.Edits.{takes, taken_by, change_in, first_again}
use Rattle.lgx_edit.specs.declared.changes.KeptEdit.{KeptEdit}
use Rattle.lgx_edit.specs.Texts.{change_of, accepted_of}

pub any-append : {A : Type 0} (p : A → Bool) (xs ys : List A) → list_any p (xs ++ ys) ≡ (list_any p xs || list_any p ys)
any-append p [] ys = refl
any-append p (x ∷ xs) ys = by_test (p x) (any-append p xs ys)
  where
    by_test : (b : Bool) → list_any p (xs ++ ys) ≡ (list_any p xs || list_any p ys) → (b || list_any p (xs ++ ys)) ≡ ((b || list_any p xs) || list_any p ys)
    by_test true e = refl
    by_test false e = e

-- ---- what accepted edits took

-- the rungs of a routine that accepted edits replaced or deleted
abbrev pub taken_in : ℕ → List KeptEdit → List ℕ
taken_in routine kept = flat_map taken_by (filter_map (change_in routine) (map accepted_of kept))

abbrev pub is_taken_by : ℕ → ℕ → List KeptEdit → Bool
is_taken_by routine rung kept = list_any (nat_eq rung) (taken_in routine kept)

pub taken_first : (routine rung : ℕ) (k : KeptEdit) (ks : List KeptEdit)
    → is_taken_by routine rung (k ∷ ks) ≡ ((nat_eq k.routine routine && list_any (nat_eq rung) (taken_by (change_of k.change))) || is_taken_by routine rung ks)
taken_first routine rung k ks = by_routine (nat_eq k.routine routine)
  where
    by_routine : (b : Bool) → list_any (nat_eq rung) (flat_map taken_by (cons_option (cond b (Some (change_of k.change)) None) (filter_map (change_in routine) (map accepted_of ks))))
        ≡ ((b && list_any (nat_eq rung) (taken_by (change_of k.change))) || is_taken_by routine rung ks)
    by_routine true = any-append (nat_eq rung) (taken_by (change_of k.change)) (taken_in routine ks)
    by_routine false = refl

pub taken_there : (routine rung : ℕ) (kept : List KeptEdit) (i : ℕ) (k : KeptEdit) → i < length kept → k ≡ get_or kept i k
    → is_taken_by routine rung (drop i kept) ≡ ((nat_eq k.routine routine && list_any (nat_eq rung) (taken_by (change_of k.change))) || is_taken_by routine rung (drop (i + 1) kept))
taken_there routine rung kept i k h is =
    ap (is_taken_by routine rung) (drop_more kept i k h ∙ ap (λ (x : KeptEdit). x ∷ drop (i + 1) kept) (sym is)) ∙ taken_first routine rung k (drop (i + 1) kept)

-- ---- what earlier edits took

-- what was taken after these edits, where this was taken before
abbrev pub gathered : List ℕ → List RungEdit → List ℕ
gathered taken [] = taken
gathered taken (e ∷ es) = gathered (takes e ++ taken) es

pub gathered_more : (taken : List ℕ) (es : List RungEdit) (e : RungEdit) → gathered taken (es ++ e ∷ []) ≡ takes e ++ gathered taken es
gathered_more taken [] e = refl
gathered_more taken (x ∷ es) e = gathered_more (takes x ++ taken) es e

three : (a b c : Bool) → ((a || b) || c) ≡ (b || (a || c))
three true true c = refl
three true false c = refl
three false true c = refl
three false false c = refl

or_false : (a : Bool) → (a || false) ≡ a
or_false true = refl
or_false false = refl

any_gathered : (p : ℕ → Bool) (taken : List ℕ) (es : List RungEdit) → list_any p (gathered taken es) ≡ (list_any p taken || list_any p (flat_map takes es))
any_gathered p taken [] = sym (or_false (list_any p taken))
any_gathered p taken (e ∷ es) =
    any_gathered p (takes e ++ taken) es
    ∙ (ap (λ (b : Bool). b || list_any p (flat_map takes es)) (any-append p (takes e) taken)
    ∙ (three (list_any p (takes e)) (list_any p taken) (list_any p (flat_map takes es))
    ∙ ap (λ (b : Bool). list_any p taken || b) (sym (any-append p (takes e) (flat_map takes es)))))

any_same : (f g : ℕ → Bool) (xs : List ℕ) → ((i : ℕ) → f i ≡ g i) → list_any f xs ≡ list_any g xs
any_same f g [] h = refl
any_same f g (x ∷ xs) h = ap (λ (b : Bool). b || list_any f xs) (h x) ∙ ap (λ (b : Bool). g x || b) (any_same f g xs h)

-- an edit takes again what an accepted or an earlier one took
abbrev pub again : List ℕ → List RungEdit → RungEdit → Bool
again taken earlier e = list_any (λ (i : ℕ). list_any (nat_eq i) taken || list_any (nat_eq i) (flat_map takes earlier)) (takes e)

module _ (taken : List ℕ) (es : List RungEdit) (k : ℕ) (e : RungEdit) (h : k < length es) (is : e ≡ get_or es k e) where
  abbrev now : List ℕ
  now = gathered taken (take k es)

  one : first_again k now (drop k es) ≡ cond (again taken (take k es) e) (Some k) (first_again (k + 1) (takes e ++ now) (drop (k + 1) es))
  one = ap (first_again k now) (drop_more es k e h ∙ ap (λ (x : RungEdit). x ∷ drop (k + 1) es) (sym is))
      ∙ ap (λ (b : Bool). cond b (Some k) (first_again (k + 1) (takes e ++ now) (drop (k + 1) es)))
      (any_same (λ (i : ℕ). list_any (nat_eq i) now) (λ (i : ℕ). list_any (nat_eq i) taken || list_any (nat_eq i) (flat_map takes (take k es))) (takes e) (λ (i : ℕ). any_gathered (nat_eq i) taken (take k es)))

  pub again_here : again taken (take k es) e ≡ true → first_again k now (drop k es) ≡ Some k
  again_here held = one ∙ ap (λ (b : Bool). cond b (Some k) (first_again (k + 1) (takes e ++ now) (drop (k + 1) es))) held

  pub again_later : again taken (take k es) e ≡ false → first_again k now (drop k es) ≡ first_again (k + 1) (gathered taken (take (k + 1) es)) (drop (k + 1) es)
  again_later held =
      one ∙ (ap (λ (b : Bool). cond b (Some k) (first_again (k + 1) (takes e ++ now) (drop (k + 1) es))) held
      ∙ ap (λ (xs : List ℕ). first_again (k + 1) xs (drop (k + 1) es))
      (sym (ap (gathered taken) (take_more es k e h ∙ ap (λ (x : RungEdit). take k es ++ x ∷ []) (sym is)) ∙ gathered_more taken (take k es) e)))
