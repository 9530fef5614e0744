-- What is drawn from a state is what is drawn later from the number that led to it.
use Rattle.std.proofs.Common.{◌≡◌, ℕ, zero, suc, ◌+◌, ◌*◌, ◌/◌, ◌%◌, ◌^◌, refl, ap, ◌∙◌, sym, arith, zero-add}
use Rattle.std.specs.Fn.{iterate}
use Rattle.lgx_gen.specs.Draws.{next_state, state_after, draw}

-- to go on after some steps
pub iterate-add : (step : ℕ → ℕ) (a b x : ℕ) → iterate step b (iterate step a x) ≡ iterate step (a + b) x
iterate-add step zero b x = ap (λ k. iterate step k x) (sym (zero-add b))
iterate-add step (suc a) b x =
    let e : suc a + b ≡ suc (a + b) = omega arith in
    rw e (iterate-add step a b (step x))

pub state_after-none : (n : ℕ) → n ≡ state_after 0 n
unfolding state_after
state_after-none n = refl

pub state_after-later : (a b n : ℕ) → state_after b (state_after a n) ≡ state_after (a + b) n
unfolding state_after
state_after-later a b n = iterate-add next_state a b n

pub draw-later : (a k m n : ℕ) → draw (state_after a n) k m ≡ draw n (a + k) m
unfolding draw
draw-later a k m n =
    let e : a + (k + 1) ≡ a + k + 1 = omega arith in
    ap (λ s. s / 65536 % m) (state_after-later a (k + 1) n ∙ ap (λ j. state_after j n) e)

-- the same where the sum is told otherwise
pub state_after-at : (a b j n : ℕ) → a + b ≡ j → state_after b (state_after a n) ≡ state_after j n
state_after-at a b j n e = state_after-later a b n ∙ ap (λ k. state_after k n) e

pub draw-at : (a k j m n : ℕ) → a + k ≡ j → draw (state_after a n) k m ≡ draw n j m
draw-at a k j m n e = draw-later a k m n ∙ ap (λ i. draw n i m) e

-- what a call that draws next tells of the draws before
pub next_state_is : (a d n : ℕ) {e : ℕ} → d ≡ state_after a n → e ≡ state_after 1 d → e ≡ state_after (a + 1) n
next_state_is a d n here next = next ∙ ap (state_after 1) here ∙ state_after-later a 1 n

pub next_draw_is : (a d m n : ℕ) {v : ℕ} → d ≡ state_after a n → v ≡ draw d 0 m → v ≡ draw n a m
next_draw_is a d m n here drawn = drawn ∙ ap (λ s. draw s 0 m) here ∙ draw-at a 0 a m n (omega arith)

-- the state after the next draw, and what it gives
pub state_after-one : (n : ℕ) → state_after 1 n ≡ (n * 1664525 + 1013904223) % 2 ^ 32
unfolding state_after
state_after-one n = refl

pub draw-first : (n m : ℕ) → draw n 0 m ≡ (n * 1664525 + 1013904223) % 2 ^ 32 / 65536 % m
unfolding draw
draw-first n m = ap (λ s. s / 65536 % m) (state_after-one n)
