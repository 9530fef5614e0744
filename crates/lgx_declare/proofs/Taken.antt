-- Names of a list that are looked at one after another.
use Rattle.std.proofs.Common.{◌≡◌, ◌||◌, ℕ, ◌+◌, ◌<◌, List, ◌∷◌, [], ◌++◌, length, map, take, drop, get_or, codes, Option, refl, ap, sym, ◌∙◌}
use Rattle.std.proofs.lemmas.List.{at_drop_more, map-append, take-map, take_more}
use Rattle.std.specs.List.{list_any}
use Rattle.lgx_num.specs.Name.{same}
use Rattle.spec_project.specs.declared.fault.ProjectFault.{ProjectFault}
use Rattle.spec_project.specs.declared.fault.ProjectCode.TheVariants.{P6}
use Rattle.spec_project.specs.Faults.{or_else, at_place, first_from, here, in_field, refused_if}
use Rattle.spec_project.specs.Names.{name_fault, repeated_name}

-- the first refusal from a place on is that of its element, or the first one after it
pub first_step : {A B : Type 0} (judge : ℕ → B → Option ProjectFault) (f : A → B) (xs : List A) (i : ℕ) (x : A) → i < length xs → x ≡ get_or xs i x
    → first_from judge i (map f (drop i xs)) ≡ or_else (judge i (f x)) (first_from judge (i + 1) (map f (drop (i + 1) xs)))
first_step judge f xs i x lt is =
    at_drop_more (λ ys. first_from judge i (map f ys)) xs i x lt
    ∙ ap (λ y. or_else (judge i (f y)) (first_from judge (i + 1) (map f (drop (i + 1) xs)))) (sym is)

-- a name, and the names after it
pub names_go_on : {T : Type 0} (f : T → List ℕ) (xs : List T) (index : List (List ℕ)) (i : ℕ) (x : T) (name : List ℕ) → i < length xs → x ≡ get_or xs i x → name ≡ f x
    → index ≡ take i (map f xs)
    → first_from (name_fault (map f xs)) i (map f (drop i xs)) ≡ repeated_name (map f xs)
    → repeated_name (map f xs) ≡ or_else (at_place i (in_field (codes "name") (refused_if (list_any (λ earlier. same earlier name) index) (here P6)))) (first_from (name_fault (map f xs)) (i + 1) (map f (drop (i + 1) xs)))
names_go_on f xs index i x name lt is named so_far goes =
    sym goes ∙ first_step (name_fault (map f xs)) f xs i x lt is
    ∙ rw (so_far, named) refl

-- the index with one name more
pub index_more : {T : Type 0} (f : T → List ℕ) (xs : List T) (index : List (List ℕ)) (i : ℕ) (x : T) (name : List ℕ) → i < length xs → x ≡ get_or xs i x → name ≡ f x
    → index ≡ take i (map f xs) → index ++ name ∷ [] ≡ take (i + 1) (map f xs)
index_more f xs index i x name lt is named so_far =
    let more : take (i + 1) xs ≡ take i xs ++ get_or xs i x ∷ [] = take_more xs i x lt in
    rw (so_far, named, take-map f i xs, take-map f (i + 1) xs, more, ← is) (sym (map-append f (take i xs) (x ∷ [])))

-- a name is one of a list's exactly where an element has it
pub any_named : {T : Type 0} (f : T → List ℕ) (name : List ℕ) (xs : List T) → list_any (λ x. same (f x) name) xs ≡ list_any (λ n. same n name) (map f xs)
any_named f name [] = refl
any_named f name (x ∷ xs) = ap (λ b. same (f x) name || b) (any_named f name xs)
