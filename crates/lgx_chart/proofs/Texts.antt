-- Texts that grow.
use Rattle.std.proofs.Common.{◌≡◌, ℕ, zero, suc, ◌-◌, ◌<◌, ◌/◌, ◌%◌, ◌+◌, List, [], ◌∷◌, ◌++◌, length, get_or, drop, true, false, eqb, refl, sym, ap, append-nil, ◌∙◌, true≢false, arith}
use Rattle.std.proofs.lemmas.Bool.Decides.{nat_tests}
use Rattle.std.specs.List.{flat_map, join_with_byte}
use Rattle.spec_base.specs.Pieces.{is_empty}
use Rattle.lgx_chart.specs.Vcd.{binary}

pub joined : (c : ℕ) (x : List ℕ) (xs : List (List ℕ)) → join_with_byte c (x ∷ xs) ≡ x ++ flat_map (λ w. c ∷ w) xs
joined c x [] = sym (append-nil x)
joined c x (y ∷ ys) = ap (λ t. x ++ c ∷ t) (joined c y ys)

pub joined_parts : (c : ℕ) (d : List ℕ) (ws : List (List ℕ)) → 0 < length ws → join_with_byte c ws ≡ get_or ws 0 d ++ flat_map (λ w. c ∷ w) (drop 1 ws)
joined_parts c d [] h = absurd (omega arith)
joined_parts c d (w ∷ ws) h = joined c w ws

pub binary_none : (count n : ℕ) → count ≡ 0 → binary count n ≡ []
unfolding binary
binary_none zero n h = refl
binary_none (suc k) n h = absurd (omega arith)

pub binary_step : (count n : ℕ) → 0 < count → binary count n ≡ binary (count - 1) (n / 2) ++ (48 + n % 2) ∷ []
unfolding binary
binary_step zero n h = absurd (omega arith)
binary_step (suc k) n h = let e : suc k - 1 ≡ k = omega arith in rw e refl

pub no_values : (values : List ℕ) → eqb (length values) 0 ≡ true → is_empty values ≡ true
no_values [] h = refl
no_values (c ∷ cs) h = absurd (let some : eqb (length (c ∷ cs)) 0 ≡ false = grind (arith, nat_tests) in true≢false (sym h ∙ some))

pub some_values : (values : List ℕ) → eqb (length values) 0 ≡ false → is_empty values ≡ false
some_values [] h = absurd (true≢false h)
some_values (c ∷ cs) h = refl
