-- Lists by number: what holds of each element, and what is made of numbered elements one after another.
use Rattle.std.proofs.Common.{◌≡◌, ℕ, zero, suc, ◌+◌, ◌<◌, ◌≤◌, List, [], ◌∷◌, ◌++◌, length, map, get_or, take, refl, sym, ap, ◌∙◌, subst, arith}
use Rattle.std.specs.Prelude.{flat_map}
use Rattle.std.specs.List.{AllByRecursion as Each, enumerate_from}
use Rattle.std.proofs.lemmas.List.{append-nil, length-map, length-take-le, take-map, take_more}
use Rattle.std.proofs.lemmas.List.Concat.{flat_map-append}
use Rattle.std.proofs.lemmas.Option.{slice_get_read}
use Rattle.spec_base.proofs.Lists.{each_get}
use Rattle.lgx_xref.proofs.Placing.{enumerate-append}

pub each_item : {A : Type 0} (P : A → Type 0) (xs : List A) (i : ℕ) (x : A) → Each P xs → i < length xs → x ≡ get_or xs i x → P x
each_item P xs i x all within is = each_get P xs i x all (slice_get_read xs (length xs) i x refl within is)

-- one numbered element more
pub numbered_more : {A B : Type 0} (f : ℕ × A → List B) (xs : List A) (i : ℕ) (x : A) → i < length xs → x ≡ get_or xs i x
    → flat_map f (enumerate_from 0 (take i xs)) ++ f (i, x) ≡ flat_map f (enumerate_from 0 (take (i + 1) xs))
numbered_more f xs i x within is =
    let le : i ≤ length xs = omega arith in
    let at : 0 + length (take i xs) ≡ i = omega (arith, length-take-le i xs le) in
    ap (λ ys. flat_map f (enumerate_from 0 (take i xs)) ++ ys) (sym (append-nil (f (i, x))))
    ∙ sym (flat_map-append f (enumerate_from 0 (take i xs)) ((i, x) ∷ []))
    ∙ ap (λ n. flat_map f (enumerate_from 0 (take i xs) ++ (n, x) ∷ [])) (sym at)
    ∙ ap (flat_map f) (sym (enumerate-append 0 (take i xs) (x ∷ [])))
    ∙ ap (λ y. flat_map f (enumerate_from 0 (take i xs ++ y ∷ []))) is
    ∙ ap (λ ys. flat_map f (enumerate_from 0 ys)) (sym (take_more xs i x within))

get_or-map_same : {A B : Type 0} (view : A → B) (xs : List A) (i : ℕ) (d : A) → i < length xs → get_or (map view xs) i (view d) ≡ view (get_or xs i d)
get_or-map_same view [] i d h = refl
get_or-map_same view (x ∷ xs) zero d h = refl
get_or-map_same view (x ∷ xs) (suc i) d h = get_or-map_same view xs i d (omega arith)

-- the same of elements that are seen as others
pub mapped_more : {A B C : Type 0} (f : ℕ × B → List C) (view : A → B) (xs : List A) (i : ℕ) (x : A) → i < length xs → x ≡ get_or xs i x
    → flat_map f (enumerate_from 0 (map view (take i xs))) ++ f (i, view x) ≡ flat_map f (enumerate_from 0 (map view (take (i + 1) xs)))
mapped_more f view xs i x within is =
    let long : i < length (map view xs) = subst (λ n. i < n) (sym (length-map xs view)) within in
    let there : view x ≡ get_or (map view xs) i (view x) = ap view is ∙ sym (get_or-map_same view xs i x within) in
    ap (λ ys. flat_map f (enumerate_from 0 ys) ++ f (i, view x)) (sym (take-map view i xs))
    ∙ numbered_more f (map view xs) i (view x) long there
    ∙ ap (λ ys. flat_map f (enumerate_from 0 ys)) (take-map view (i + 1) xs)
