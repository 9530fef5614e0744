-- Rungs and programs, drawn one after another.
use Rattle.std.proofs.Common.{◌≡◌, ℕ, ◌+◌, ◌*◌, List, ◌++◌, ap, ◌∙◌, arith}
use Rattle.std.specs.Prelude.{codes}
use Rattle.lgx_gen.specs.Draws.{state_after, draw}
use Rattle.lgx_gen.specs.Listed.{listed, comma_before}
use Rattle.lgx_gen.specs.Rungs.{form, filled, rung}
use Rattle.lgx_gen.specs.ProjectText.{rung_line, rung_lines, program, programs}
use Rattle.lgx_gen.proofs.DrawsOn.{state_after-at, draw-at}
use Rattle.lgx_gen.proofs.ListsOn.{listed-same, listed-push, listed-start}

-- four draws make a rung
pub rung-drawn : (n : ℕ) {number i j k : ℕ} → number ≡ draw n 0 8 → i ≡ draw n 1 16 → j ≡ draw n 2 16 → k ≡ draw n 3 4 → filled (form number) i j k ≡ rung n 0
unfolding rung
rung-drawn n a b c d = cc

-- ---- what is drawn from a later state

pub rung-later : (a b j n : ℕ) → a + b ≡ j → rung (state_after a n) b ≡ rung n j
unfolding rung
rung-later a b j n e =
    cc (draw-at a b j 8 n e, draw-at a (b + 1) (j + 1) 16 n (omega arith), draw-at a (b + 2) (j + 2) 16 n (omega arith), draw-at a (b + 3) (j + 3) 4 n (omega arith))

pub rung_line-later : (a b j n : ℕ) → a + b ≡ j → rung_line (state_after a n) b ≡ rung_line n j
rung_line-later a b j n e = ap (λ text. codes "\n    \"" ++ text ++ codes "\"") (rung-later a b j n e)

pub rung_lines-later : (a b j n count : ℕ) → a + b ≡ j → rung_lines (state_after a n) b count ≡ rung_lines n j count
unfolding rung_lines
rung_lines-later a b j n count e = listed-same (λ r. rung_line (state_after a n) (b + 4 * r)) (λ r. rung_line n (j + 4 * r)) count (λ r. rung_line-later a (b + 4 * r) (j + 4 * r) n (omega arith))

pub program-later : (a b j n number : ℕ) → a + b ≡ j → program (state_after a n) b number ≡ program n j number
unfolding program
program-later a b j n number e = cc (rung_lines-later a b j n 32 e)

-- ---- one more

pub rung_lines-start : (t : List ℕ) (n : ℕ) → t ≡ t ++ rung_lines n 0 0
unfolding rung_lines
rung_lines-start t n = listed-start t (λ r. rung_line n (0 + 4 * r))

pub programs-start : (t : List ℕ) (n : ℕ) → t ≡ t ++ programs n 0
unfolding programs
programs-start t n = listed-start t (λ g. program n (4 * (32 * g)) g)

pub rung_lines-push : (t : List ℕ) (n i : ℕ) {d : ℕ} → d ≡ state_after (4 * i) n → t ++ rung_lines n 0 i ++ comma_before i ++ rung_line d 0 ≡ t ++ rung_lines n 0 (i + 1)
unfolding rung_lines
rung_lines-push t n i {d} here =
    let same : rung_line d 0 ≡ rung_line n (0 + 4 * i) = ap (λ s. rung_line s 0) here ∙ rung_line-later (4 * i) 0 (0 + 4 * i) n (omega arith) in
    ap (λ text. t ++ listed (λ r. rung_line n (0 + 4 * r)) i ++ comma_before i ++ text) same ∙ listed-push t (λ r. rung_line n (0 + 4 * r)) i

pub rungs_drawn : (n i : ℕ) {d e : ℕ} → d ≡ state_after (4 * i) n → e ≡ state_after 4 d → e ≡ state_after (4 * (i + 1)) n
rungs_drawn n i here next = next ∙ ap (state_after 4) here ∙ state_after-at (4 * i) 4 (4 * (i + 1)) n (omega arith)

pub programs-push : (t : List ℕ) (n i : ℕ) {d : ℕ} → d ≡ state_after (4 * (32 * i)) n → t ++ programs n i ++ comma_before i ++ program d 0 i ≡ t ++ programs n (i + 1)
unfolding programs
programs-push t n i {d} here =
    let same : program d 0 i ≡ program n (4 * (32 * i)) i = ap (λ s. program s 0 i) here ∙ program-later (4 * (32 * i)) 0 (4 * (32 * i)) n i (omega arith) in
    ap (λ text. t ++ listed (λ g. program n (4 * (32 * g)) g) i ++ comma_before i ++ text) same ∙ listed-push t (λ g. program n (4 * (32 * g)) g) i

pub programs_drawn : (n i : ℕ) {d e : ℕ} → d ≡ state_after (4 * (32 * i)) n → e ≡ state_after 128 d → e ≡ state_after (4 * (32 * (i + 1))) n
programs_drawn n i here next = next ∙ ap (state_after 128) here ∙ state_after-at (4 * (32 * i)) 128 (4 * (32 * (i + 1))) n (omega arith)
