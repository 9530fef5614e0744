-- When all actions of a script were made, by what the passes counted.
use Rattle.std.proofs.Common.{◌≡◌, ℕ, zero, suc, ◌+◌, ◌<◌, List, [], ◌∷◌, length, get_or, arith}
use Rattle.std.specs.Prelude.{sum_by}
use Rattle.std.proofs.lemmas.List.Sums.{sum_by-cons}
use Rattle.spec_text.specs.declared.script.Timed.{Timed}

-- the counts of the passes are the lanes' lengths, and the last pass has none
pub whole_passes : {X : Type 0} (f : X → ℕ) (ps : List X) (lanes : List (List Timed)) → length ps ≡ length lanes + 1 → ((i : ℕ) (d : X) → i < length ps → f (get_or ps i d) ≡ length (get_or lanes i [])) → sum_by f ps ≡ sum_by (λ lane. length lane) lanes
whole_passes f [] lanes e each = absurd (omega arith)
whole_passes f (p ∷ []) [] e each = let a = sum_by-cons f p [] in let here = each 0 p (omega arith) in omega arith
whole_passes f (p ∷ q ∷ ps) [] e each = absurd (omega arith)
whole_passes f (p ∷ ps) (x ∷ xs) e each =
    let a = sum_by-cons f p ps in
    let b = sum_by-cons (λ (lane : List Timed). length lane) x xs in
    let here = each 0 p (omega arith) in
    let rest = whole_passes f ps xs (omega arith) (λ i d l. each (suc i) d (omega arith)) in
    omega arith

-- an end was counted by one of the passes
pub some_end : {X : Type 0} (f : X → ℕ) (ps : List X) (i : ℕ) (d : X) → i < length ps → f (get_or ps i d) ≡ 1 → 0 < sum_by f ps
some_end f [] i d l e = absurd (omega arith)
some_end f (p ∷ ps) zero d l e = let a = sum_by-cons f p ps in omega arith
some_end f (p ∷ ps) (suc i) d l e = let a = sum_by-cons f p ps in let b = some_end f ps i d (omega arith) e in omega arith

-- so one was counted if each of them has one
pub all_end : {X : Type 0} (f : X → ℕ) (ps : List X) → 0 < length ps → ((i : ℕ) (d : X) → i < length ps → f (get_or ps i d) ≡ 1) → 0 < sum_by f ps
all_end f [] some each = absurd (omega arith)
all_end f (p ∷ ps) some each = some_end f (p ∷ ps) 0 p some (each 0 p some)
