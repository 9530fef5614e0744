-- The tokens that the loop tells are those of the text in plain words, and there are no others.
use Rattle.std.proofs.Common.{◌≡◌, ℕ, ◌+◌, ◌-◌, ◌<◌, ◌≤◌, Bool, true, false, inl, inr, List, [], ◌∷◌, ◌++◌, length, reverse, refl, ap, sym, ◌∙◌, subst, append_assoc, arith, Option, Some, None, IsTrue}
use Rattle.std.specs.Prelude.{◌↔◌}
use Rattle.std.specs.List.{list_all}
use Rattle.std.proofs.lemmas.List.{append-nil, length-reverse}
use Rattle.std.proofs.lemmas.Bool.{and_from, and_parts}
use Rattle.lgx_rung.specs.declared.op.Op.{Op}
use Rattle.lgx_rung.specs.Lexemes.{EndsRun, IsTokenOf, AreTokens}
use Rattle.lgx_rung.specs.Mnemonics.{op_of}
use Rattle.lgx_rung.specs.Tokens.{is_blank, in_run, word, run_token, mark, inside_after, end_run, put_byte, tokens_from, tokens, Placed}
use Rattle.lgx_rung.proofs.Bytes.{blank_in_run, run_read, one_mark}
use Rattle.lgx_rung.proofs.Lexing.{onto, reverse-onto, reverse-cons, list_all-reverse}

-- ---- what the loop makes of blanks, of a run and of a single byte

passed : (blanks text : List ℕ) (inside : Bool) (at : ℕ) → IsTrue (list_all is_blank blanks) → tokens_from (blanks ++ text) inside at [] ≡ tokens_from text inside (at + length blanks) []
passed [] text inside at h = let here : at ≡ at + 0 = omega arith in ap (λ n. tokens_from text inside n []) here
passed (b ∷ bs) text inside at h =
    let parts = and_parts (is_blank b) (list_all is_blank bs) h in
    let place : at + 1 + length bs ≡ at + length (b ∷ bs) = omega arith in
    ap (λ x. put_byte x (is_blank b) b (tokens_from (bs ++ text)) inside at []) (blank_in_run inside b parts.0)
    ∙ ap (λ x. put_byte false x b (tokens_from (bs ++ text)) inside at []) parts.0
    ∙ passed bs text inside (at + 1) parts.1
    ∙ ap (λ n. tokens_from text inside n []) place

collected : (bytes text : List ℕ) (inside : Bool) (at : ℕ) (run : List ℕ) → IsTrue (list_all (in_run inside) bytes)
    → tokens_from (bytes ++ text) inside at run ≡ tokens_from text inside (at + length bytes) (onto bytes run)
collected [] text inside at run h = let here : at ≡ at + 0 = omega arith in ap (λ n. tokens_from text inside n run) here
collected (b ∷ bs) text inside at run h =
    let parts = and_parts (in_run inside b) (list_all (in_run inside) bs) h in
    let place : at + 1 + length bs ≡ at + length (b ∷ bs) = omega arith in
    ap (λ x. put_byte x (is_blank b) b (tokens_from (bs ++ text)) inside at run) parts.0
    ∙ collected bs text inside (at + 1) (b ∷ run) parts.1
    ∙ ap (λ n. tokens_from text inside n (onto bs (b ∷ run))) place

length-onto : (bytes run : List ℕ) → length (onto bytes run) ≡ length bytes + length run
length-onto [] run = omega arith
length-onto (b ∷ bs) run = omega (arith, length-onto bs (b ∷ run))

run_told : (bytes rest : List ℕ) (inside : Bool) (at : ℕ) → 0 < length bytes → IsTrue (list_all (in_run inside) bytes) → EndsRun inside rest
    → tokens_from (bytes ++ rest) inside at [] ≡ record { at = at; token = run_token inside bytes } ∷ tokens_from rest inside (at + length bytes) []
run_told bytes rest inside at some h e =
    let size : length (onto bytes []) ≡ length bytes = omega (arith, length-onto bytes []) in
    let more : 0 < length (onto bytes []) = omega arith in
    let start : at + length bytes - length (onto bytes []) ≡ at = omega arith in
    collected bytes rest inside at [] h
    ∙ run_read rest inside (at + length bytes) (onto bytes []) more e
    ∙ ap (λ n. record { at = n; token = run_token inside (reverse (onto bytes [])) } ∷ tokens_from rest inside (at + length bytes) []) start
    ∙ ap (λ r. record { at = at; token = run_token inside r } ∷ tokens_from rest inside (at + length bytes) []) (reverse-onto bytes [])

-- a run is neither parenthesis
inside_run : (inside : Bool) (bytes : List ℕ) → inside_after inside (run_token inside bytes) ≡ inside
inside_run true bytes = refl
inside_run false bytes = of_word (op_of bytes)
  where
    of_word : (o : Option Op) → inside_after false (word o) ≡ false
    of_word None = refl
    of_word (Some op) = refl

-- ---- what is told in plain words is what the loop tells

token_told : (t : Placed) (bytes rest : List ℕ) (inside : Bool) → IsTokenOf inside t.token bytes rest
    → tokens_from (bytes ++ rest) inside t.at [] ≡ t ∷ tokens_from rest (inside_after inside t.token) (t.at + length bytes) []
token_told t bytes rest inside (inl r) =
    let same : inside ≡ inside_after inside t.token = sym (ap (inside_after inside) r.1 ∙ inside_run inside bytes) in
    run_told bytes rest inside t.at r.0.0 r.0.1 r.0.2
    ∙ ap (λ k. record { at = t.at; token = k } ∷ tokens_from rest inside (t.at + length bytes) []) (sym r.1)
    ∙ ap (λ i. t ∷ tokens_from rest i (t.at + length bytes) []) same
token_told t bytes rest inside (inr m) =
    subst (λ (x : List ℕ). tokens_from (x ++ rest) inside t.at [] ≡ t ∷ tokens_from rest (inside_after inside t.token) (t.at + length x) []) (sym m.1)
    (one_mark m.0 rest inside t.at m.2.0 m.2.1
    ∙ ap (λ k. record { at = t.at; token = k } ∷ tokens_from rest (inside_after inside k) (t.at + 1) []) (sym m.3))

told : (ts : List Placed) (text : List ℕ) (inside : Bool) (at : ℕ) → AreTokens ts text inside at → tokens_from text inside at [] ≡ ts
told [] text inside at h = ap (λ x. tokens_from x inside at []) (sym (append-nil text)) ∙ passed text [] inside at h
told (t ∷ ts) text inside at h =
    ap (λ x. tokens_from x inside at []) h.is_text
    ∙ passed h.blanks (h.bytes ++ h.rest) inside at h.are_blank
    ∙ ap (λ n. tokens_from (h.bytes ++ h.rest) inside n []) (sym h.is_there)
    ∙ token_told t h.bytes h.rest inside h.is_token
    ∙ ap (λ x. t ∷ x) (told ts h.rest (inside_after inside t.token) (t.at + length h.bytes) h.holds)

-- ---- what the loop tells is told in plain words

blank_more : (ts : List Placed) (b : ℕ) (bs : List ℕ) (inside : Bool) (at : ℕ) → is_blank b ≡ true → AreTokens ts bs inside (at + 1) → AreTokens ts (b ∷ bs) inside at
blank_more [] b bs inside at e h = and_from (is_blank b) (list_all is_blank bs) e h
blank_more (t ∷ ts) b bs inside at e h =
    let there : t.at ≡ at + 1 + length h.blanks = h.is_there in
    record {
      blanks = b ∷ h.blanks;
      bytes = h.bytes;
      rest = h.rest;
      is_text = ap (λ x. b ∷ x) h.is_text;
      are_blank = and_from (is_blank b) (list_all is_blank h.blanks) e h.are_blank;
      is_token = h.is_token;
      is_there = omega arith;
      holds = h.holds;
    }

single_more : (ts : List Placed) (b : ℕ) (bs : List ℕ) (inside : Bool) (at : ℕ) → in_run inside b ≡ false → is_blank b ≡ false
    → AreTokens ts bs (inside_after inside (mark b)) (at + 1) → AreTokens (record { at = at; token = mark b } ∷ ts) (b ∷ bs) inside at
single_more ts b bs inside at e f h = record {
  blanks = [];
  bytes = b ∷ [];
  rest = bs;
  is_text = refl;
  are_blank = refl;
  is_token = inr (b, refl, (e, f), refl);
  is_there = omega arith;
  holds = h;
}

-- a run that ends here
run_more : (run text : List ℕ) (inside : Bool) (at : ℕ) (ts : List Placed) → length run ≤ at → IsTrue (list_all (in_run inside) run) → EndsRun inside text
    → AreTokens ts text inside at → AreTokens (end_run inside at run ts) (reverse run ++ text) inside (at - length run)
run_more [] text inside at ts h a e k = let here : at ≡ at - 0 = omega arith in subst (λ (n : ℕ). AreTokens ts text inside n) here k
run_more (b ∷ bs) text inside at ts h a e k =
    let run : List ℕ = b ∷ bs in
    let size : length (reverse run) ≡ length run = length-reverse run in
    let place : at ≡ at - length run + length (reverse run) = omega arith in
    let same : inside ≡ inside_after inside (run_token inside (reverse run)) = sym (inside_run inside (reverse run)) in
    let some : 0 < length (reverse run) = omega arith in
    let start : at - length run ≡ at - length run + 0 = omega arith in
    record {
      blanks = [];
      bytes = reverse run;
      rest = text;
      is_text = refl;
      are_blank = refl;
      is_token = inl ((some, list_all-reverse (in_run inside) run a, e), refl);
      is_there = start;
      holds = subst (λ (i : Bool). AreTokens ts text i (at - length run + length (reverse run))) same (subst (λ (n : ℕ). AreTokens ts text inside n) place k);
    }

-- with the bytes of an unfinished run before it, the last first
abbrev IsTold : List ℕ → Type 0
IsTold text = (inside : Bool) (at : ℕ) (run : List ℕ) → length run ≤ at → IsTrue (list_all (in_run inside) run) → AreTokens (tokens_from text inside at run) (reverse run ++ text) inside (at - length run)

without_run : (text : List ℕ) (inside : Bool) (at : ℕ) → IsTold text → AreTokens (tokens_from text inside at []) text inside at
without_run text inside at h =
    let few : 0 ≤ at = omega arith in
    let here : at - 0 ≡ at = omega arith in
    subst (λ (n : ℕ). AreTokens (tokens_from text inside at []) text inside n) here (h inside at [] few refl)

told_byte : (x y : Bool) (b : ℕ) (bs : List ℕ) → IsTold bs → (inside : Bool) (at : ℕ) (run : List ℕ) → in_run inside b ≡ x → is_blank b ≡ y → length run ≤ at → IsTrue (list_all (in_run inside) run)
    → AreTokens (put_byte x y b (tokens_from bs) inside at run) (reverse run ++ b ∷ bs) inside (at - length run)
told_byte true y b bs rest inside at run e f h a =
    let few : length (b ∷ run) ≤ at + 1 = omega arith in
    let place : at + 1 - length (b ∷ run) ≡ at - length run = omega arith in
    let text : reverse (b ∷ run) ++ bs ≡ reverse run ++ b ∷ bs = ap (λ x. x ++ bs) (reverse-cons b run) ∙ append_assoc (reverse run) (b ∷ []) bs in
    let ts : List Placed = tokens_from bs inside (at + 1) (b ∷ run) in
    subst (λ (n : ℕ). AreTokens ts (reverse run ++ b ∷ bs) inside n) place
    (subst (λ (t : List ℕ). AreTokens ts t inside (at + 1 - length (b ∷ run))) text
    (rest inside (at + 1) (b ∷ run) few (and_from (in_run inside b) (list_all (in_run inside) run) e a)))
told_byte false true b bs rest inside at run e f h a =
    run_more run (b ∷ bs) inside at (tokens_from bs inside (at + 1) []) h a e
    (blank_more (tokens_from bs inside (at + 1) []) b bs inside at f (without_run bs inside (at + 1) rest))
told_byte false false b bs rest inside at run e f h a =
    run_more run (b ∷ bs) inside at (record { at = at; token = mark b } ∷ tokens_from bs (inside_after inside (mark b)) (at + 1) []) h a e
    (single_more (tokens_from bs (inside_after inside (mark b)) (at + 1) []) b bs inside at e f (without_run bs (inside_after inside (mark b)) (at + 1) rest))

is_told : (text : List ℕ) → IsTold text
is_told [] inside at run h a = run_more run [] inside at [] h a tt refl
is_told (b ∷ bs) inside at run h a = told_byte (in_run inside b) (is_blank b) b bs (is_told bs) inside at run refl refl h a

pub tokens_told : (text : List ℕ) (ts : List Placed) → (tokens text ≡ ts) ↔ AreTokens ts text false 0
tokens_told text ts =
    ((λ e. subst (λ (ts : List Placed). AreTokens ts text false 0) e (without_run text false 0 (is_told text))), told ts text false 0)
