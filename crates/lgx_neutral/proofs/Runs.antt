-- The tokens of a text after blanks, a run or a single byte.
use Rattle.std.proofs.Common.{◌≡◌, ℕ, zero, suc, ◌+◌, ◌-◌, ◌<◌, ◌≤◌, Bool, true, false, nat_lt, List, [], ◌∷◌, ◌++◌, length, reverse, get_or, drop, take, slice_range, refl, ap, sym, ◌∙◌, subst, arith, IsTrue, length-drop, take-add, drop-drop}
use Rattle.std.specs.List.{list_all}
use Rattle.std.proofs.lemmas.List.{drop_more, drop_all, take_more, reverse-append, reverse-reverse, length-reverse, get_or-drop, length-take}
use Rattle.std.proofs.lemmas.List.Folds.{list_all-append}
use Rattle.std.proofs.lemmas.Bool.{and_from, ltb-true, ltb-false}
use Rattle.lgx_rung.specs.Lexemes.{EndsRun}
use Rattle.lgx_rung.proofs.Bytes.{blank_in_run, run_read, one_mark}
use Rattle.lgx_rung.specs.Tokens.{is_blank, is_operand_byte, is_operand, in_run, run_token, mark, inside_after, put_byte, tokens_from}

-- ---- blanks

one_blank : (b : ℕ) (bs : List ℕ) (inside : Bool) (at : ℕ) → is_blank b ≡ true → tokens_from (b ∷ bs) inside at [] ≡ tokens_from bs inside (at + 1) []
one_blank b bs inside at h =
    ap (λ x. put_byte x (is_blank b) b (tokens_from bs) inside at []) (blank_in_run inside b h)
    ∙ ap (λ x. put_byte false x b (tokens_from bs) inside at []) h

pub blank_passed : (text : List ℕ) (at : ℕ) (inside : Bool) → at < length text → is_blank (get_or text at 0) ≡ true
    → tokens_from (drop at text) inside at [] ≡ tokens_from (drop (at + 1) text) inside (at + 1) []
blank_passed text at inside h e =
    ap (λ x. tokens_from x inside at []) (drop_more text at 0 h)
    ∙ one_blank (get_or text at 0) (drop (at + 1) text) inside at e

pub none_left : (text : List ℕ) (at at' : ℕ) (inside : Bool) → length text ≤ at → tokens_from (drop at text) inside at' [] ≡ []
none_left text at at' inside h = ap (λ x. tokens_from x inside at' []) (drop_all at text h)

-- ---- a run

-- one byte more
pub range_more : (text : List ℕ) (from at : ℕ) → from ≤ at → at < length text → slice_range text from (at + 1) ≡ slice_range text from at ++ get_or text at 0 ∷ []
range_more text from at h k =
    let one : at + 1 - from ≡ (at - from) + 1 = omega arith in
    let room : at - from < length (drop from text) = omega (arith, length-drop from text) in
    let place : from + (at - from) ≡ at = omega arith in
    ap (λ n. take n (drop from text)) one
    ∙ take_more (drop from text) (at - from) 0 room
    ∙ ap (λ b. slice_range text from at ++ b ∷ []) (get_or-drop from text (at - from) 0 ∙ ap (λ n. get_or text n 0) place)

-- up to one place and from there on
pub range_split : (text : List ℕ) (from at end : ℕ) → from ≤ at → at ≤ end → slice_range text from end ≡ slice_range text from at ++ slice_range text at end
range_split text from at end h k =
    let parts : end - from ≡ (at - from) + (end - at) = omega arith in
    let place : from + (at - from) ≡ at = omega arith in
    ap (λ n. take n (drop from text)) parts
    ∙ take-add (at - from) (end - at) (drop from text)
    ∙ ap (λ xs. slice_range text from at ++ take (end - at) xs) (drop-drop (at - from) from text ∙ ap (λ n. drop n text) place)

pub range_length : (text : List ℕ) (from at : ℕ) → from ≤ at → at ≤ length text → length (slice_range text from at) ≡ at - from
range_length text from at h k = omega (arith, length-take (at - from) (drop from text), length-drop from text)

one_of_run : (b : ℕ) (bs : List ℕ) (inside : Bool) (at : ℕ) (run : List ℕ) → in_run inside b ≡ true → tokens_from (b ∷ bs) inside at run ≡ tokens_from bs inside (at + 1) (b ∷ run)
one_of_run b bs inside at run h = ap (λ x. put_byte x (is_blank b) b (tokens_from bs) inside at run) h

pub run_grown : (text : List ℕ) (inside : Bool) (from at : ℕ) → from ≤ at → at < length text → in_run inside (get_or text at 0) ≡ true
    → tokens_from (drop at text) inside at (reverse (slice_range text from at)) ≡ tokens_from (drop (at + 1) text) inside (at + 1) (reverse (slice_range text from (at + 1)))
run_grown text inside from at h k e =
    ap (λ x. tokens_from x inside at (reverse (slice_range text from at))) (drop_more text at 0 k)
    ∙ one_of_run (get_or text at 0) (drop (at + 1) text) inside at (reverse (slice_range text from at)) e
    ∙ ap (tokens_from (drop (at + 1) text) inside (at + 1)) (sym (ap reverse (range_more text from at h k) ∙ reverse-append (slice_range text from at) (get_or text at 0 ∷ [])))

pub run_bytes : (text : List ℕ) (p : ℕ → Bool) (from at : ℕ) → from ≤ at → at < length text → p (get_or text at 0) ≡ true
    → IsTrue (list_all p (slice_range text from at)) → IsTrue (list_all p (slice_range text from (at + 1)))
run_bytes text p from at h k e all =
    ap (list_all p) (range_more text from at h k)
    ∙ list_all-append p (slice_range text from at) (get_or text at 0 ∷ [])
    ∙ and_from (list_all p (slice_range text from at)) _ all (and_from (p (get_or text at 0)) true e refl)

pub operand_of_run : (run : List ℕ) → 0 < length run → IsTrue (list_all is_operand_byte run) → IsTrue (is_operand run)
operand_of_run [] h all = absurd (omega arith)
operand_of_run (b ∷ bs) h all = all

ends_here : (text : List ℕ) (inside : Bool) (at : ℕ) → at ≤ length text → (at < length text → in_run inside (get_or text at 0) ≡ false) → EndsRun inside (drop at text)
ends_here [] inside zero h e = tt
ends_here [] inside (suc at) h e = absurd (omega arith)
ends_here (b ∷ bs) inside zero h e = e (omega arith)
ends_here (b ∷ bs) inside (suc at) h e = ends_here bs inside at (omega arith) (λ k. e (omega arith))

pub run_moves : (text : List ℕ) (inside : Bool) (from at : ℕ) → from ≤ at → from < length text → in_run inside (get_or text from 0) ≡ true
    → (at < length text → in_run inside (get_or text at 0) ≡ false) → from < at
run_moves text inside from at h k e stops = go (nat_lt from at) refl
  where
    go : (b : Bool) → nat_lt from at ≡ b → from < at
    go true f = ltb-true from at f
    go false f =
        let back : at ≤ from = ltb-false from at f in
        let same : at ≡ from = omega arith in
        let stop : in_run inside (get_or text from 0) ≡ false = subst (λ n. in_run inside (get_or text n 0) ≡ false) same (stops (omega arith)) in
        cc

pub run_ended : (text : List ℕ) (inside : Bool) (from at : ℕ) → from < at → at ≤ length text → (at < length text → in_run inside (get_or text at 0) ≡ false)
    → tokens_from (drop at text) inside at (reverse (slice_range text from at))
    ≡ record { at = from; token = run_token inside (slice_range text from at) } ∷ tokens_from (drop at text) inside at []
run_ended text inside from at h k e =
    let run : List ℕ = slice_range text from at in
    let size : length (reverse run) ≡ at - from = length-reverse run ∙ range_length text from at (omega arith) k in
    let some : 0 < length (reverse run) = omega arith in
    let start : at - length (reverse run) ≡ from = omega arith in
    run_read (drop at text) inside at (reverse run) some (ends_here text inside at k e)
    ∙ ap (λ n. record { at = n; token = run_token inside (reverse (reverse run)) } ∷ tokens_from (drop at text) inside at []) start
    ∙ ap (λ r. record { at = from; token = run_token inside r } ∷ tokens_from (drop at text) inside at []) (reverse-reverse run)

-- ---- a single byte

pub mark_read : (text : List ℕ) (inside : Bool) (at : ℕ) → at < length text → in_run inside (get_or text at 0) ≡ false → is_blank (get_or text at 0) ≡ false
    → tokens_from (drop at text) inside at [] ≡ record { at = at; token = mark (get_or text at 0) } ∷ tokens_from (drop (at + 1) text) (inside_after inside (mark (get_or text at 0))) (at + 1) []
mark_read text inside at h e k =
    ap (λ x. tokens_from x inside at []) (drop_more text at 0 h)
    ∙ one_mark (get_or text at 0) (drop (at + 1) text) inside at e k
