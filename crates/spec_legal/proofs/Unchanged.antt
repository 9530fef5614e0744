-- Lists of rungs and of changes.
use Rattle.std.proofs.Common.{◌≡◌, ℕ, ◌+◌, ◌<◌, Bool, true, false, cond, List, [], ◌∷◌, ◌++◌, length, map, Option, Some, None, refl, sym, ◌∙◌, ap, arith}
use Rattle.std.specs.Prelude.{flat_map, filter_map, nat_eq, if◌then◌else◌}
use Rattle.std.specs.List.{cons_option, enumerate_from, position_from}
use Rattle.std.proofs.lemmas.Bool.{eq-eqb, ne_eqb}
use Rattle.std.proofs.lemmas.List.{append-nil}
use Rattle.lgx_rung.specs.Tree.{Source}
use Rattle.spec_machine.specs.Edits.{Change, AcceptedEdit, around, merged, change_in}

-- without a change a routine stays as it is
around-none : (i : ℕ) (rungs : List Source) → flat_map (around []) (enumerate_from i rungs) ≡ rungs
around-none i [] = refl
around-none i (rung ∷ rungs) = ap (λ (rs : List Source). rung ∷ rs) (around-none (i + 1) rungs)

pub merged-none : (rungs : List Source) → merged rungs [] ≡ rungs
merged-none rungs = append-nil (flat_map (around []) (enumerate_from 0 rungs)) ∙ around-none 0 rungs

-- the changes of one routine are of that one, and of no other
abbrev pub edits_of : ℕ → List Change → List AcceptedEdit
edits_of r changes = map (λ c. record { routine = r; change = c }) changes

abbrev kept : Bool → Change → Option Change
kept b c = if b then Some c else None

pub changes-here : (r : ℕ) (changes : List Change) → filter_map (change_in r) (edits_of r changes) ≡ changes
changes-here r [] = refl
changes-here r (c ∷ changes) =
    ap (λ (b : Bool). cons_option (kept b c) (filter_map (change_in r) (edits_of r changes))) (eq-eqb r r refl) ∙ ap (λ (cs : List Change). c ∷ cs) (changes-here r changes)

pub changes-elsewhere : (r k : ℕ) (changes : List Change) → (r ≡ k → ⊥) → filter_map (change_in k) (edits_of r changes) ≡ []
changes-elsewhere r k [] other = refl
changes-elsewhere r k (c ∷ changes) other =
    ap (λ (b : Bool). cons_option (kept b c) (filter_map (change_in k) (edits_of r changes))) (ne_eqb r k other) ∙ changes-elsewhere r k changes other

-- a first place is one of the list's
pub first-within : {A : Type 0} (test : A → Bool) (i : ℕ) (xs : List A) (k : ℕ) → position_from test i xs ≡ Some k → k < i + length xs
first-within test i [] k h = absurd (cc h)
first-within {A} test i (x ∷ xs) k h = go (test x) (first-within test (i + 1) xs k) h
  where
    go : (b : Bool) → (position_from test (i + 1) xs ≡ Some k → k < i + 1 + length xs) → cond b (Some i) (position_from test (i + 1) xs) ≡ Some k → k < i + length (x ∷ xs)
    go true later e = let is : i ≡ k = cc e in omega arith
    go false later e = let l = later e in omega arith
