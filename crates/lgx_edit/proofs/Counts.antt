-- Instructions are taken away element by element, and routine by routine.
use Rattle.std.proofs.Common.{◌≡◌, ℕ, ◌+◌, ◌-◌, ◌<◌, List, [], ◌∷◌, ◌++◌, length, get_or, drop, ap, ◌∙◌, arith, length-append}
use Rattle.std.specs.Prelude.{sum_by}
use Rattle.std.proofs.lemmas.List.{drop_more}
use Rattle.std.proofs.lemmas.List.Sums.{sum_by-cons}
use Rattle.lgx_rung.specs.Elements.{tree_of}
use Rattle.lgx_rung.specs.Tree.{Source, instructions, leg_instructions, legs_of}
use Rattle.lgx_rung.specs.declared.rung.Element.{Element}
use Rattle.lgx_check.proofs.Labels.{at_element, at_leg}

-- what is left after two lists is what is left after the second of what is left after the first
two : {A : Type 0} (left now : ℕ) (all xs ys : List A) → all ≡ xs ++ ys → now ≡ left - length xs → now - length ys ≡ left - length all
two left now all xs ys e is =
    let count : length all ≡ length xs + length ys = ap length e ∙ length-append xs ys in
    omega arith

pub element_left : (es : List Element) (i : ℕ) (e : Element) (left now : ℕ) → i < length es → e ≡ get_or es i e
    → now ≡ left - length (instructions (tree_of (e ∷ [])))
    → now - length (instructions (tree_of (drop (i + 1) es))) ≡ left - length (instructions (tree_of (drop i es)))
element_left es i e left now h is n =
    two left now (instructions (tree_of (drop i es))) (instructions (tree_of (e ∷ []))) (instructions (tree_of (drop (i + 1) es))) (at_element es i e h is) n

pub leg_left : (ts : List Source) (i : ℕ) (t : Source) (left now : ℕ) → i < length ts → t ≡ get_or ts i t
    → now ≡ left - length (instructions t)
    → now - length (leg_instructions (legs_of (drop (i + 1) ts))) ≡ left - length (leg_instructions (legs_of (drop i ts)))
leg_left ts i t left now h is n =
    two left now (leg_instructions (legs_of (drop i ts))) (instructions t) (leg_instructions (legs_of (drop (i + 1) ts))) (at_leg ts i t h is) n

-- the same for a sum over a list
pub sum_left : {A : Type 0} (f : A → ℕ) (xs : List A) (i : ℕ) (d : A) (left now : ℕ) → i < length xs → now ≡ left - f (get_or xs i d)
    → now - sum_by f (drop (i + 1) xs) ≡ left - sum_by f (drop i xs)
sum_left f xs i d left now h n =
    let first : sum_by f (drop i xs) ≡ f (get_or xs i d) + sum_by f (drop (i + 1) xs) = ap (sum_by f) (drop_more xs i d h) ∙ sum_by-cons f (get_or xs i d) (drop (i + 1) xs) in
    omega arith
