-- A refusal that is the first of a list's, and what a list's elements give.
use Rattle.std.proofs.Common.{◌≡◌, ℕ, ◌+◌, ◌<◌, List, [], ◌∷◌, ◌++◌, length, take, drop, get_or, Option, Some, None, ap, sym, subst, ◌∙◌}
use Rattle.std.specs.List.{filter_map}
use Rattle.std.proofs.lemmas.List.{at_drop_more, take_more}
use Rattle.std.proofs.lemmas.List.Elements.{filter_map-append}
use Rattle.spec_base.specs.Causes.{IsFaultOf}
use Rattle.spec_project.specs.declared.fault.ProjectFault.{ProjectFault}
use Rattle.spec_project.specs.Faults.{or_else, at_place, first_from, in_field}

pub placed : (i : ℕ) (o e r : Option ProjectFault) → IsFaultOf o e → IsFaultOf (at_place i e) r → IsFaultOf (at_place i o) r
placed i o (Some g) r h k = subst (λ (p : Option ProjectFault). IsFaultOf (at_place i p) r) (sym h) k
placed i o None None h k = tt
placed i o None (Some x) h k = absurd (cc k)

pub fielded : (key : List ℕ) (o e r : Option ProjectFault) → IsFaultOf o e → IsFaultOf (in_field key e) r → IsFaultOf (in_field key o) r
fielded key o (Some g) r h k = subst (λ (p : Option ProjectFault). IsFaultOf (in_field key p) r) (sym h) k
fielded key o None None h k = tt
fielded key o None (Some x) h k = absurd (cc k)

pub earlier : (a rest r : Option ProjectFault) → IsFaultOf a r → IsFaultOf (or_else a rest) r
earlier a rest None h = tt
earlier a rest (Some g) h = ap (λ (o : Option ProjectFault). or_else o rest) h

pub element_step : {A : Type 0} (judge : A → Option ProjectFault) (xs : List A) (i : ℕ) (x : A) → i < length xs → x ≡ get_or xs i x
    → first_from (λ i x. at_place i (judge x)) i (drop i xs) ≡ or_else (at_place i (judge x)) (first_from (λ i x. at_place i (judge x)) (i + 1) (drop (i + 1) xs))
element_step judge xs i x lt is =
    at_drop_more (λ ys. first_from (λ i x. at_place i (judge x)) i ys) xs i x lt
    ∙ ap (λ y. or_else (at_place i (judge y)) (first_from (λ i x. at_place i (judge x)) (i + 1) (drop (i + 1) xs))) (sym is)

-- one more element of a list whose elements may give something each
pub gathered_more : {A B : Type 0} (f : A → Option B) (xs : List A) (i : ℕ) (x : A) → i < length xs → x ≡ get_or xs i x → filter_map f (take (i + 1) xs) ≡ filter_map f (take i xs) ++ filter_map f (x ∷ [])
gathered_more f xs i x lt is =
    ap (filter_map f) (take_more xs i x lt)
    ∙ filter_map-append f (take i xs) (get_or xs i x ∷ [])
    ∙ ap (λ y. filter_map f (take i xs) ++ filter_map f (y ∷ [])) (sym is)
