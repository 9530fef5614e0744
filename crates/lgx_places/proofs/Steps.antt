-- Lists whose elements are read one after another.
use Rattle.std.proofs.Common.{◌≡◌, ℕ, ◌+◌, ◌<◌, ◌≤◌, Bool, true, List, [], ◌∷◌, ◌++◌, length, map, take, drop, get_or, Option, Some, None, refl, ap, sym, subst, ◌∙◌}
use Rattle.std.specs.Prelude.{cond, fold, position}
use Rattle.std.specs.List.{position_from}
use Rattle.std.proofs.lemmas.List.{at_drop_more, drop_all, map-append, take_more}
use Rattle.std.proofs.lemmas.Iterator.Adapters.{position_from-zero}
use Rattle.spec_base.specs.Causes.{IsFaultOf}
use Rattle.spec_project.specs.declared.fault.ProjectFault.{ProjectFault}
use Rattle.spec_project.specs.Faults.{or_else, at_place, first_at, first_from}
use Rattle.lgx_json.proofs.Steps.{earlier, element_step, placed}

-- ---- the first that passes a test

position_step : {A : Type 0} (test : A → Bool) (xs : List A) (i : ℕ) (x : A) → i < length xs → x ≡ get_or xs i x → position_from test i (drop i xs) ≡ cond (test x) (Some i) (position_from test (i + 1) (drop (i + 1) xs))
position_step test xs i x lt is = at_drop_more (λ ys. position_from test i ys) xs i x lt ∙ ap (λ y. cond (test y) (Some i) (position_from test (i + 1) (drop (i + 1) xs))) (sym is)

pub found_at : {A : Type 0} (test : A → Bool) (xs : List A) (i : ℕ) (x : A) → i < length xs → x ≡ get_or xs i x → test x ≡ true → position_from test i (drop i xs) ≡ position_from test 0 xs → Some i ≡ position test xs
found_at test xs i x lt is passes goes =
    sym (position_from-zero test xs ∙ sym goes ∙ position_step test xs i x lt is ∙ ap (λ b. cond b (Some i) (position_from test (i + 1) (drop (i + 1) xs))) passes)

pub found_nowhere : {A : Type 0} (test : A → Bool) (xs : List A) (i : ℕ) → length xs ≤ i → position_from test i (drop i xs) ≡ position_from test 0 xs → None ≡ position test xs
found_nowhere test xs i h goes = sym (position_from-zero test xs ∙ sym goes ∙ ap (λ ys. position_from test i ys) (drop_all i xs h))

mapped_from : {A B : Type 0} (test : B → Bool) (f : A → B) (xs : List A) (i : ℕ) → position_from (λ x. test (f x)) i xs ≡ position_from test i (map f xs)
mapped_from test f [] i = refl
mapped_from test f (x ∷ xs) i = ap (λ (o : Option ℕ). cond (test (f x)) (Some i) o) (mapped_from test f xs (i + 1))

-- what is found of elements is found of what they are mapped to
pub position_mapped : {A B : Type 0} (test : B → Bool) (f : A → B) (xs : List A) → position (λ x. test (f x)) xs ≡ position test (map f xs)
position_mapped test f xs = position_from-zero (λ x. test (f x)) xs ∙ mapped_from test f xs 0 ∙ sym (position_from-zero test (map f xs))

-- ---- the first refusal

abbrev pub GoesOn : {A : Type 0} → (A → Option ProjectFault) → List A → ℕ → Type 0
GoesOn judge xs i = first_from (λ i x. at_place i (judge x)) i (drop i xs) ≡ first_at judge xs

-- an element is refused where none before it is
pub refused_at : {A : Type 0} (judge : A → Option ProjectFault) (xs : List A) (i : ℕ) (x : A) (e r : Option ProjectFault) → i < length xs → x ≡ get_or xs i x → GoesOn judge xs i
    → IsFaultOf (judge x) e → IsFaultOf (at_place i e) r → IsFaultOf (first_at judge xs) r
refused_at judge xs i x e r lt is goes h k =
    subst (λ (o : Option ProjectFault). IsFaultOf o r) (sym (element_step judge xs i x lt is) ∙ goes)
    (earlier (at_place i (judge x)) (first_from (λ i x. at_place i (judge x)) (i + 1) (drop (i + 1) xs)) r (placed i (judge x) e r h k))

-- it isn't
pub passed_at : {A : Type 0} (judge : A → Option ProjectFault) (xs : List A) (i : ℕ) (x : A) → i < length xs → x ≡ get_or xs i x → GoesOn judge xs i → judge x ≡ None → GoesOn judge xs (i + 1)
passed_at judge xs i x lt is goes none =
    sym (sym goes ∙ element_step judge xs i x lt is ∙ ap (λ o. or_else (at_place i o) (first_from (λ i x. at_place i (judge x)) (i + 1) (drop (i + 1) xs))) none)

-- ---- what is made

pub map_more : {A B : Type 0} (f : A → B) (xs : List A) (i : ℕ) (x : A) → i < length xs → x ≡ get_or xs i x → map f (take (i + 1) xs) ≡ map f (take i xs) ++ f x ∷ []
map_more f xs i x lt is =
    ap (map f) (take_more xs i x lt) ∙ map-append f (take i xs) (get_or xs i x ∷ []) ∙ ap (λ y. map f (take i xs) ++ f y ∷ []) (sym is)

pub fold_step : {A B : Type 0} (f : B → A → B) (b : B) (xs : List A) (i : ℕ) (x : A) → i < length xs → x ≡ get_or xs i x → fold f b (drop i xs) ≡ fold f (f b x) (drop (i + 1) xs)
fold_step f b xs i x lt is = at_drop_more (λ ys. fold f b ys) xs i x lt ∙ ap (λ y. fold f (f b y) (drop (i + 1) xs)) (sym is)
