-- Where a name is found that no other entry has.
use Rattle.std.specs.Prelude.{◌≡◌, ℕ, zero, suc, ◌+◌, ◌==◌, ◌⊎◌, Bool, true, false, cond, ◌&&◌, List, [], ◌∷◌, ◌++◌, length, map, position, slice_get, Option, Some, None, refl}
use Rattle.std.specs.Char.{to_ascii_lowercase}
use Rattle.std.specs.List.{position_from}
use Rattle.std.specs.Cmp.Derive.{both_true}
use Rattle.std.proofs.Common.{sym, ap, ◌∙◌, arith, eq-eqb, inl, inr, subst}
use Rattle.std.proofs.lemmas.Iterator.Adapters.{position_from-zero}
use Rattle.std.proofs.lemmas.Slice.Eq.{bytes_eq-Decides}
use Rattle.lgx_num.specs.Name.{same}
use Rattle.spec_language.specs.declared.tag.Scope.{Scope}
use Rattle.spec_language.specs.declared.tag.Scope.TheVariants.{Controller, Program}
use Rattle.spec_language.specs.Declarations.{Entry, same_scope, is_named}
use Rattle.lgx_tags.specs.Firsts.{AreFirst}

-- ---- an entry has its own name

own_scope : (s : Scope) → same_scope s s ≡ true
own_scope Controller = refl
own_scope (Program p) = eq-eqb p p refl

own_name : (name : List ℕ) → same name name ≡ true
own_name name = (bytes_eq-Decides (map to_ascii_lowercase name) (map to_ascii_lowercase name)).1 refl

own : (e : Entry) → is_named e.scope e.name e ≡ true
own e = both_true (own_scope e.scope) (own_name e.name)

-- ---- an entry more

found_before : (p : Entry → Bool) (xs ys : List Entry) (k i : ℕ) → position_from p k xs ≡ Some i → position_from p k (xs ++ ys) ≡ Some i
found_before p [] ys k i h = absurd (cc h)
found_before p (x ∷ xs) ys k i h = go (p x) (λ later. found_before p xs ys (k + 1) i later) h
  where
    go : (b : Bool) → (position_from p (k + 1) xs ≡ Some i → position_from p (k + 1) (xs ++ ys) ≡ Some i)
        → cond b (Some k) (position_from p (k + 1) xs) ≡ Some i → cond b (Some k) (position_from p (k + 1) (xs ++ ys)) ≡ Some i
    go true later h = h
    go false later h = later h

found_last : (p : Entry → Bool) (xs : List Entry) (e : Entry) (k : ℕ) → position_from p k xs ≡ None → p e ≡ true → position_from p k (xs ++ e ∷ []) ≡ Some (k + length xs)
found_last p [] e k h t = let here : k ≡ k + 0 = omega arith in ap (λ b. cond b (Some k) None) t ∙ ap Some here
found_last p (x ∷ xs) e k h t =
    let there : k + 1 + length xs ≡ k + length (x ∷ xs) = omega arith in
    go (p x) (λ none. found_last p xs e (k + 1) none t ∙ ap Some there) h
  where
    go : (b : Bool) → (position_from p (k + 1) xs ≡ None → position_from p (k + 1) (xs ++ e ∷ []) ≡ Some (k + length (x ∷ xs)))
        → cond b (Some k) (position_from p (k + 1) xs) ≡ None → cond b (Some k) (position_from p (k + 1) (xs ++ e ∷ [])) ≡ Some (k + length (x ∷ xs))
    go true later h = absurd (cc h)
    go false later h = later h

got : (xs : List Entry) (e f : Entry) (i : ℕ) → slice_get (xs ++ e ∷ []) i ≡ Some f → (slice_get xs i ≡ Some f) ⊎ ((i ≡ length xs) × (e ≡ f))
got [] e f zero h = inr (refl, cc h)
got [] e f (suc i) h = absurd (cc h)
got (x ∷ xs) e f zero h = inl h
got (x ∷ xs) e f (suc i) h = elim (got xs e f i h) [ inl k ↦ inl k | inr k ↦ inr (ap suc k.0, k.1) ]

pub none_first : AreFirst []
none_first zero e h = absurd (cc h)
none_first (suc i) e h = absurd (cc h)

pub first_more : (es : List Entry) (e : Entry) → AreFirst es → position (is_named e.scope e.name) es ≡ None → AreFirst (es ++ e ∷ [])
first_more es e firsts free i f h = elim (got es e f i h) [
  | inl k ↦
      position_from-zero (is_named f.scope f.name) (es ++ e ∷ [])
      ∙ found_before (is_named f.scope f.name) es (e ∷ []) 0 i (sym (position_from-zero (is_named f.scope f.name) es) ∙ firsts i f k)
  | inr k ↦
      let last : position_from (is_named e.scope e.name) 0 (es ++ e ∷ []) ≡ Some (0 + length es) = found_last (is_named e.scope e.name) es e 0 (sym (position_from-zero (is_named e.scope e.name) es) ∙ free) (own e) in
      let at : 0 + length es ≡ i = omega (arith, k.0) in
      subst (λ x. position (is_named x.scope x.name) (es ++ e ∷ []) ≡ Some i) k.1
      (position_from-zero (is_named e.scope e.name) (es ++ e ∷ []) ∙ last ∙ ap Some at)
]

-- an entry of this scope and name is the first of them
pub named_first : (es : List Entry) (i : ℕ) (e : Entry) (s : Scope) (name : List ℕ) → AreFirst es → slice_get es i ≡ Some e → e.scope ≡ s → e.name ≡ name → position (is_named s name) es ≡ Some i
named_first es i e s name firsts there p q =
    subst (λ t. position (is_named t name) es ≡ Some i) p (subst (λ w. position (is_named e.scope w) es ≡ Some i) q (firsts i e there))
