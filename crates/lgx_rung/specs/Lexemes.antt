-- The tokens of a text in plain words, beside the loop of `Tokens` that gives them: blanks, a token's bytes, and so on to blanks
-- alone at the end.
use Rattle.std.specs.Prelude.{◌≡◌, ℕ, ◌+◌, ◌<◌, ◌⊎◌, Bool, false, IsTrue, List, [], ◌∷◌, ◌++◌, length}
use Rattle.std.specs.List.{list_all}
use Rattle.lgx_rung.specs.Tokens.{is_blank, in_run, run_token, mark, inside_after, Token, Placed}

-- the text doesn't continue a run: it has no first byte, or one that is in no run
abbrev pub EndsRun : (inside : Bool) → List ℕ → Type 0
EndsRun inside [] = Unit {0}
EndsRun inside (b ∷ bs) = in_run inside b ≡ false

-- one byte of a run or more, that what follows doesn't continue
abbrev pub IsRun : (inside : Bool) → List ℕ → (rest : List ℕ) → Type 0
IsRun inside bytes rest = (0 < length bytes) × IsTrue (list_all (in_run inside) bytes) × EndsRun inside rest

-- a single byte that is in no run and is no blank
abbrev pub IsSingle : (inside : Bool) → ℕ → Type 0
IsSingle inside b = (in_run inside b ≡ false) × (is_blank b ≡ false)

-- the token of these bytes, which the rest follows
abbrev pub IsTokenOf : (inside : Bool) → Token → List ℕ → (rest : List ℕ) → Type 0
IsTokenOf inside t bytes rest =
    (IsRun inside bytes rest × (t ≡ run_token inside bytes)) ⊎ ((b : ℕ) × (bytes ≡ b ∷ []) × IsSingle inside b × (t ≡ mark b))

-- from a place on the text is blanks, the bytes of a token, and a rest of which something holds at the place where it begins
pub record BeginsBy (t : Placed) (text : List ℕ) (inside : Bool) (at : ℕ) (Holds : List ℕ → ℕ → Type 0) : Type 0 where
  pub blanks : List ℕ
  pub bytes : List ℕ
  pub rest : List ℕ
  pub is_text : text ≡ blanks ++ (bytes ++ rest)
  pub are_blank : IsTrue (list_all is_blank blanks)
  pub is_token : IsTokenOf inside t.token bytes rest
  pub is_there : t.at ≡ at + length blanks
  pub holds : Holds rest (t.at + length bytes)

-- the tokens of a text that begins at a place, inside parentheses or outside
abbrev pub AreTokens : List Placed → List ℕ → (inside : Bool) → (at : ℕ) → Type 0
AreTokens [] text inside at = IsTrue (list_all is_blank text)
AreTokens (t ∷ ts) text inside at = BeginsBy t text inside at (λ rest to. AreTokens ts rest (inside_after inside t.token) to)
