-- Rounds, drawn one after another.
use Rattle.std.proofs.Common.{◌≡◌, ℕ, zero, suc, ◌+◌, ◌%◌, Bool, true, false, cond, List, ◌++◌, refl, ap, sym, ◌∙◌, arith, append_assoc}
use Rattle.std.specs.Prelude.{◌==◌, flat_map}
use Rattle.std.specs.List.{range_with_len}
use Rattle.std.proofs.lemmas.Bool.{eq-eqb, ne_eqb, eqb-true, eqb-false}
use Rattle.std.proofs.lemmas.List.{append-nil}
use Rattle.lgx_gen.specs.Draws.{state_after}
use Rattle.lgx_gen.specs.JournalText.{draws_before, draws_in, edit, round, rounds}
use Rattle.lgx_gen.proofs.DrawsOn.{state_after-at, draw-at}

-- ---- what is drawn from a later state

pub edit-later : (a b j n : ℕ) → a + b ≡ j → edit (state_after a n) b ≡ edit n j
unfolding edit
edit-later a b j n e = cc (draw-at a b j 32 n e, draw-at a (b + 1) (j + 1) 100 n (omega arith))

pub round-later : (a b j n number : ℕ) → a + b ≡ j → round (state_after a n) b number ≡ round n j number
unfolding round
round-later a b j n number e =
    cc (draw-at a b j 50 n e, draw-at a (b + 1) (j + 1) 4 n (omega arith), draw-at a (b + 2) (j + 2) 65536 n (omega arith), edit-later a (b + 3) (j + 3) n (omega arith))

-- ---- a round's parts

-- the edit of a tenth round, and of another
pub tenth : (number : ℕ) (there elsewhere : List ℕ) → number % 10 ≡ 9 → cond (number % 10 == 9) there elsewhere ≡ there
tenth number there elsewhere h = rw (eq-eqb (number % 10) 9 h) refl

pub other : (number : ℕ) (there elsewhere : List ℕ) → (number % 10 ≡ 9 → ⊥) → cond (number % 10 == 9) there elsewhere ≡ elsewhere
other number there elsewhere h = rw (ne_eqb (number % 10) 9 h) refl

pub draws_in-tenth : (number : ℕ) → number % 10 ≡ 9 → draws_in number ≡ 5
draws_in-tenth number h = rw (eq-eqb (number % 10) 9 h) refl

pub draws_in-other : (number : ℕ) → (number % 10 ≡ 9 → ⊥) → draws_in number ≡ 3
draws_in-other number h = rw (ne_eqb (number % 10) 9 h) refl

-- ---- one more

-- the draws before the next round
pub draws_before-more : (number : ℕ) → draws_before number + draws_in number ≡ draws_before (number + 1)
draws_before-more number = by_tenth (number % 10 == 9) (eqb-true (number % 10) 9) (eqb-false (number % 10) 9)
  where
    by_tenth : (tenth : Bool) → (tenth ≡ true → number % 10 ≡ 9) → (tenth ≡ false → number % 10 ≡ 9 → ⊥) → draws_before number + cond tenth 5 3 ≡ draws_before (number + 1)
    by_tenth true is isnt = let h = is refl in omega arith
    by_tenth false is isnt = let h = isnt refl in omega arith

flat_more : (f : ℕ → List ℕ) (a n : ℕ) → flat_map f (range_with_len a n) ++ f (a + n) ≡ flat_map f (range_with_len a (n + 1))
flat_more f a zero =
    let here : a + 0 ≡ a = omega arith in
    ap f here ∙ sym (append-nil (f a))
flat_more f a (suc n) =
    let here : a + suc n ≡ a + 1 + n = omega arith in
    let long : suc n + 1 ≡ suc (n + 1) = omega arith in
    append_assoc (f a) (flat_map f (range_with_len (a + 1) n)) (f (a + suc n))
    ∙ ap (λ s. f a ++ s) (ap (λ k. flat_map f (range_with_len (a + 1) n) ++ f k) here ∙ flat_more f (a + 1) n)
    ∙ ap (λ k. flat_map f (range_with_len a k)) (sym long)

pub rounds-start : (t : List ℕ) (n : ℕ) → t ≡ t ++ rounds n 0
unfolding rounds
rounds-start t n = sym (append-nil t)

pub rounds-push : (t : List ℕ) (n i : ℕ) {d : ℕ} → d ≡ state_after (draws_before i) n → t ++ rounds n i ++ round d 0 i ≡ t ++ rounds n (i + 1)
unfolding rounds
rounds-push t n i {d} here =
    let numbered = λ (number : ℕ). round n (draws_before number) number in
    let at_zero : 0 + i ≡ i = omega arith in
    let same : round d 0 i ≡ round n (draws_before i) i = ap (λ s. round s 0 i) here ∙ round-later (draws_before i) 0 (draws_before i) n i (omega arith) in
    append_assoc t (flat_map numbered (range_with_len 0 i)) (round d 0 i)
    ∙ ap (λ s. t ++ (flat_map numbered (range_with_len 0 i) ++ s)) (same ∙ ap numbered (sym at_zero))
    ∙ ap (λ s. t ++ s) (flat_more numbered 0 i)

pub rounds_drawn : (n i : ℕ) {d e : ℕ} → d ≡ state_after (draws_before i) n → e ≡ state_after (draws_in i) d → e ≡ state_after (draws_before (i + 1)) n
rounds_drawn n i here next = next ∙ ap (state_after (draws_in i)) here ∙ state_after-at (draws_before i) (draws_in i) (draws_before (i + 1)) n (draws_before-more i)
