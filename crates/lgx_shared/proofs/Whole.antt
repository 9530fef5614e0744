-- When all actions of a script were made.
use Rattle.std.proofs.Common.{◌≡◌, ℕ, suc, ◌<◌, List, [], ◌∷◌, length, get_or, arith}
use Rattle.std.specs.Prelude.{sum, sum_by}
use Rattle.std.proofs.lemmas.List.Sums.{sum_by-cons}
use Rattle.spec_text.specs.declared.script.Timed.{Timed}

-- the counts of the lanes are their lengths
pub whole_counts : (counts : List ℕ) (lanes : List (List Timed)) → length counts ≡ length lanes → ((i : ℕ) → i < length lanes → get_or counts i 0 ≡ length (get_or lanes i [])) → sum counts ≡ sum_by (λ lane. length lane) lanes
whole_counts [] [] e each = omega arith
whole_counts [] (x ∷ xs) e each = absurd (omega arith)
whole_counts (c ∷ cs) [] e each = absurd (omega arith)
whole_counts (c ∷ cs) (x ∷ xs) e each =
    let a = sum_by-cons (λ (k : ℕ). k) c cs in
    let b = sum_by-cons (λ (lane : List Timed). length lane) x xs in
    let here = each 0 (omega arith) in
    let rest = whole_counts cs xs (omega arith) (λ i l. each (suc i) (omega arith)) in
    omega arith
