-- Lists of a file's values, and how many elements of a list are kept.
use Rattle.std.proofs.Common.{◌≡◌, ℕ, suc, ◌<◌, ◌≤◌, List, [], ◌∷◌, length, map, nat_lt, true, false, Option, Some, None, refl, ap, arith}
use Rattle.std.specs.List.{filter_map}
use Rattle.std.proofs.lemmas.Bool.Decides.{nat_tests}
use Rattle.std.proofs.lemmas.List.{length-map}
use Rattle.serde_json.specs.Data.{Data}
use Rattle.serde_json.specs.Find.{as_array}
use Rattle.serde_json.specs.View.{view, items_of, items_view}
use Rattle.serde_json.specs.declared.value.Value.{Value}
use Rattle.spec_project.specs.declared.fault.ProjectCode.TheVariants.{P4, P5, P11}
use Rattle.spec_project.specs.Faults.{here, first_at}
use Rattle.spec_project.specs.Judges.{Judge, listed, list}
use Rattle.spec_project.specs.Values.{elements_of}

pub listed_items : (ds : List Data) → listed (items_of ds) ≡ ds
listed_items [] = refl
listed_items (d ∷ ds) = ap (λ es. d ∷ es) (listed_items ds)

-- what is refused of a value that is a list of these
pub not_a_list : (least most : ℕ) (judge : Judge) (d : Data) → as_array d ≡ None → list least most judge d ≡ Some (here P4)
unfolding list
not_a_list least most judge d e = rw e refl

pub list_too_short : (least most : ℕ) (judge : Judge) (vs : List Value) (d : Data) → as_array d ≡ Some (items_view vs) → length vs < least → list least most judge d ≡ Some (here P5)
unfolding list
list_too_short least most judge vs d e short =
    let t : nat_lt (length vs) least ≡ true = grind (arith, nat_tests) in
    rw (e, listed_items (map view vs), length-map vs view, t) refl

pub list_too_long : (least most : ℕ) (judge : Judge) (vs : List Value) (d : Data) → as_array d ≡ Some (items_view vs) → least ≤ length vs → most < length vs → list least most judge d ≡ Some (here P11)
unfolding list
list_too_long least most judge vs d e enough long =
    let t : nat_lt (length vs) least ≡ false = grind (arith, nat_tests) in
    let u : nat_lt most (length vs) ≡ true = grind (arith, nat_tests) in
    rw (e, listed_items (map view vs), length-map vs view, t, u) refl

pub list_of_elements : (least most : ℕ) (judge : Judge) (vs : List Value) (d : Data) → as_array d ≡ Some (items_view vs) → least ≤ length vs → length vs ≤ most → list least most judge d ≡ first_at judge (map view vs)
unfolding list
list_of_elements least most judge vs d e enough few =
    let t : nat_lt (length vs) least ≡ false = grind (arith, nat_tests) in
    let u : nat_lt most (length vs) ≡ false = grind (arith, nat_tests) in
    rw (e, listed_items (map view vs), length-map vs view, t, u) refl

pub elements_are : (vs : List Value) (d : Data) → as_array d ≡ Some (items_view vs) → elements_of d ≡ map view vs
elements_are vs d e = rw e (listed_items (map view vs))

-- no more are kept than there are
pub kept_few : {A B : Type 0} (f : A → Option B) (xs : List A) → length (filter_map f xs) ≤ length xs
kept_few {A} {B} f [] = omega arith
kept_few {A} {B} f (x ∷ xs) = go (f x) refl (kept_few f xs)
  where
    go : (o : Option B) → f x ≡ o → length (filter_map f xs) ≤ length xs → length (filter_map f (x ∷ xs)) ≤ suc (length xs)
    go (Some y) e h = rw e (omega arith)
    go None e h = rw e (omega arith)
