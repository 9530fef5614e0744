-- Bytes that are told apart: blanks, and where a run ends.
use Rattle.std.proofs.Common.{◌≡◌, ℕ, ◌+◌, ◌-◌, ◌<◌, Bool, true, false, ◌||◌, List, [], ◌∷◌, length, reverse, refl, ap, sym, ◌∙◌, subst, arith}
use Rattle.std.specs.Prelude.{◌==◌}
use Rattle.std.proofs.lemmas.Bool.{eqb-true}
use Rattle.lgx_rung.specs.Lexemes.{EndsRun}
use Rattle.lgx_rung.specs.Tokens.{is_blank, in_run, run_token, mark, inside_after, put_byte, tokens_from}

-- no blank stands in a run
blank_cases : (b : ℕ) (P : ℕ → Type 0) → is_blank b ≡ true → P 32 → P 9 → P 13 → P 10 → P b
blank_cases b P h p q r s = go (b == 32) (b == 9) (b == 13) (b == 10) refl refl refl refl h
  where
    go : (w x y z : Bool) → (b == 32) ≡ w → (b == 9) ≡ x → (b == 13) ≡ y → (b == 10) ≡ z → (w || x || y || z) ≡ true → P b
    go true x y z e f g i k = subst P (sym (eqb-true b 32 e)) p
    go false true y z e f g i k = subst P (sym (eqb-true b 9 f)) q
    go false false true z e f g i k = subst P (sym (eqb-true b 13 g)) r
    go false false false true e f g i k = subst P (sym (eqb-true b 10 i)) s
    go false false false false e f g i k = cc

pub blank_in_run : (inside : Bool) (b : ℕ) → is_blank b ≡ true → in_run inside b ≡ false
blank_in_run true b h = blank_cases b (λ b. in_run true b ≡ false) h refl refl refl refl
blank_in_run false b h = blank_cases b (λ b. in_run false b ≡ false) h refl refl refl refl

-- a byte that is in no run ends the run before it
pub run_first : (y : Bool) (b : ℕ) (bs : List ℕ) (inside : Bool) (at c : ℕ) (cs : List ℕ)
    → put_byte false y b (tokens_from bs) inside at (c ∷ cs)
    ≡ record { at = at - length (c ∷ cs); token = run_token inside (reverse (c ∷ cs)) } ∷ put_byte false y b (tokens_from bs) inside at []
run_first true b bs inside at c cs = refl
run_first false b bs inside at c cs = refl

-- a run is read to its token
pub run_read : (text : List ℕ) (inside : Bool) (at : ℕ) (run : List ℕ) → 0 < length run → EndsRun inside text
    → tokens_from text inside at run ≡ record { at = at - length run; token = run_token inside (reverse run) } ∷ tokens_from text inside at []
run_read text inside at [] h e = absurd (omega arith)
run_read [] inside at (c ∷ cs) h e = refl
run_read (b ∷ bs) inside at (c ∷ cs) h e =
    ap (λ x. put_byte x (is_blank b) b (tokens_from bs) inside at (c ∷ cs)) e
    ∙ run_first (is_blank b) b bs inside at c cs
    ∙ ap (λ x. record { at = at - length (c ∷ cs); token = run_token inside (reverse (c ∷ cs)) } ∷ put_byte x (is_blank b) b (tokens_from bs) inside at []) (sym e)

-- so is a byte that is in no run
pub one_mark : (b : ℕ) (bs : List ℕ) (inside : Bool) (at : ℕ) → in_run inside b ≡ false → is_blank b ≡ false
    → tokens_from (b ∷ bs) inside at [] ≡ record { at = at; token = mark b } ∷ tokens_from bs (inside_after inside (mark b)) (at + 1) []
one_mark b bs inside at h e =
    ap (λ x. put_byte x (is_blank b) b (tokens_from bs) inside at []) h
    ∙ ap (λ x. put_byte false x b (tokens_from bs) inside at []) e
