-- What no refusal says of the parts of a pass.
use Rattle.std.specs.Prelude.{◌≡◌, ℕ, ◌+◌, Bool, true, false, not, List, [], ◌∷◌, Option, Some, None, option_map, IsTrue, refl}
use Rattle.std.specs.List.{AllByRecursion as Each, enumerate_from}
use Rattle.spec_project.specs.declared.fault.ProjectFault.{ProjectFault}
use Rattle.spec_project.specs.Faults.{or_else, at_place, first_from, first_at, refused_if}

pub neither : {A : Type 0} (a b : Option A) → or_else a b ≡ None → (a ≡ None) × (b ≡ None)
neither None b h = (refl, h)
neither (Some x) b h = absurd (cc h)

-- under a field or at a place
pub not_mapped : {A B : Type 0} (f : A → B) (o : Option A) → option_map f o ≡ None → o ≡ None
not_mapped f None h = refl
not_mapped f (Some x) h = absurd (cc h)

pub not_so : (b : Bool) (f : ProjectFault) → refused_if b f ≡ None → b ≡ false
not_so true f h = absurd (cc h)
not_so false f h = refl

pub is_so : (b : Bool) (f : ProjectFault) → refused_if (not b) f ≡ None → IsTrue b
is_so true f h = refl
is_so false f h = absurd (cc h)

-- of a list, each with its number
pub none_of : {A : Type 0} (judge : ℕ → A → Option ProjectFault) (i : ℕ) (xs : List A) → first_from judge i xs ≡ None
    → Each (λ e. judge e.0 e.1 ≡ None) (enumerate_from i xs)
none_of judge i [] h = tt
none_of judge i (x ∷ xs) h = let r = neither (judge i x) (first_from judge (i + 1) xs) h in (r.0, none_of judge (i + 1) xs r.1)

pub none_placed : {A : Type 0} (judge : A → Option ProjectFault) (i : ℕ) (xs : List A)
    → first_from (λ k x. at_place k (judge x)) i xs ≡ None → Each (λ x. judge x ≡ None) xs
none_placed judge i [] h = tt
none_placed judge i (x ∷ xs) h =
    let r = neither (at_place i (judge x)) (first_from (λ k x. at_place k (judge x)) (i + 1) xs) h in
    (not_mapped _ (judge x) r.0, none_placed judge (i + 1) xs r.1)

pub none_at : {A : Type 0} (judge : A → Option ProjectFault) (xs : List A) → first_at judge xs ≡ None
    → Each (λ x. judge x ≡ None) xs
none_at judge xs h = none_placed judge 0 xs h
