-- Words with a space between each two, and numbers, are read as what they were written from.
use Rattle.std.proofs.Common.{◌≡◌, ℕ, suc, ◌+◌, List, [], ◌∷◌, ◌++◌, length, take, drop, filter, Bool, true, false, cond, not, ◌&&◌, nat_eq, refl, sym, ap, ◌∙◌, arith, true≢false}
use Rattle.std.specs.List.{list_all, prefix_len}
use Rattle.std.proofs.Math.Seq.{take-append_seam, drop-append_seam}
use Rattle.std.proofs.lemmas.Bool.{and_parts, or_parts, not-true}
use Rattle.std.proofs.lemmas.Bool.Decides.{nat_tests}
use Rattle.spec_base.specs.Pieces.{pieces, cut, is_empty, has_byte}
use Rattle.spec_text.specs.TextLines.{is_space, words, from_word, word_len, first_word, after_word, spaced}

pub same_number : (n : ℕ) → nat_eq n n ≡ true
same_number n = grind (arith, nat_tests)

-- ---- pieces

pub piece_before : (mark : ℕ) (w rest : List ℕ) → has_byte mark w ≡ false → pieces mark (w ++ mark ∷ rest) ≡ w ∷ pieces mark rest
piece_before mark [] rest h = ap (λ b. cut b mark (pieces mark rest)) (same_number mark)
piece_before mark (c ∷ cs) rest h =
    ap (λ b. cut b c (pieces mark (cs ++ mark ∷ rest))) (or_parts (nat_eq c mark) (has_byte mark cs) h).0 ∙ ap (cut false c) (piece_before mark cs rest (or_parts (nat_eq c mark) (has_byte mark cs) h).1)

pub piece_alone : (mark : ℕ) (w : List ℕ) → has_byte mark w ≡ false → pieces mark w ≡ w ∷ []
piece_alone mark [] h = refl
piece_alone mark (c ∷ cs) h =
    ap (λ b. cut b c (pieces mark cs)) (or_parts (nat_eq c mark) (has_byte mark cs) h).0 ∙ ap (cut false c) (piece_alone mark cs (or_parts (nat_eq c mark) (has_byte mark cs) h).1)

-- ---- words

-- a word has a byte, and no space
abbrev pub is_word : List ℕ → Bool
is_word w = not (is_empty w) && not (has_byte 32 w)

pub no_space : (w : List ℕ) → is_word w ≡ true → has_byte 32 w ≡ false
no_space w h = not-true (has_byte 32 w) (and_parts (not (is_empty w)) (not (has_byte 32 w)) h).1

some_byte : (w : List ℕ) → is_word w ≡ true → not (is_empty w) ≡ true
some_byte w h = (and_parts (not (is_empty w)) (not (has_byte 32 w)) h).0

pieces_spaced : (w : List ℕ) (ws : List (List ℕ)) → is_word w ≡ true → list_all is_word ws ≡ true → pieces 32 (spaced (w ∷ ws)) ≡ w ∷ ws
pieces_spaced w [] h k = piece_alone 32 w (no_space w h)
pieces_spaced w (v ∷ vs) h k =
    let two = and_parts (is_word v) (list_all is_word vs) k in
    piece_before 32 w (spaced (v ∷ vs)) (no_space w h) ∙ ap (λ ps. w ∷ ps) (pieces_spaced v vs two.0 two.1)

pub all_kept : (ws : List (List ℕ)) → list_all is_word ws ≡ true → filter (λ w. not (is_empty w)) ws ≡ ws
all_kept [] h = refl
all_kept (w ∷ ws) h =
    let two = and_parts (is_word w) (list_all is_word ws) h in
    ap (λ b. cond b (w ∷ filter (λ v. not (is_empty v)) ws) (filter (λ v. not (is_empty v)) ws)) (some_byte w two.0) ∙ ap (λ vs. w ∷ vs) (all_kept ws two.1)

pub words_spaced : (ws : List (List ℕ)) → list_all is_word ws ≡ true → words (spaced ws) ≡ ws
words_spaced [] h = refl
words_spaced (w ∷ ws) h =
    let two = and_parts (is_word w) (list_all is_word ws) h in
    ap (filter (λ v. not (is_empty v))) (pieces_spaced w ws two.0 two.1) ∙ all_kept (w ∷ ws) h

-- a space before the words
pub words_indented : (text : List ℕ) → words (32 ∷ text) ≡ words text
words_indented text = refl

pub from_indented : (text : List ℕ) → from_word (32 ∷ text) ≡ from_word text
from_indented text = let one : 1 + prefix_len is_space text ≡ suc (prefix_len is_space text) = omega arith in ap (λ n. drop n (32 ∷ text)) one

pub first_indented : (text : List ℕ) → first_word (32 ∷ text) ≡ first_word text
first_indented text = ap (λ t. take (word_len t) t) (from_indented text)

pub after_indented : (text : List ℕ) → after_word (32 ∷ text) ≡ after_word text
after_indented text = ap (λ t. drop (word_len t) t) (from_indented text)

-- ---- the first word of a text that begins with it

from_here : (w rest : List ℕ) → is_word w ≡ true → from_word (w ++ rest) ≡ w ++ rest
from_here [] rest h = absurd (true≢false (sym (some_byte [] h)))
from_here (c ∷ cs) rest h =
    let other : nat_eq c 32 ≡ false = (or_parts (nat_eq c 32) (has_byte 32 cs) (no_space (c ∷ cs) h)).0 in
    ap (λ b. drop (cond b (1 + prefix_len is_space (cs ++ rest)) 0) (c ∷ cs ++ rest)) other

abbrev pub ends_word : List ℕ → Bool
ends_word [] = true
ends_word (c ∷ cs) = nat_eq c 32

len_before : (w rest : List ℕ) → has_byte 32 w ≡ false → ends_word rest ≡ true → word_len (w ++ rest) ≡ length w
len_before [] [] h k = refl
len_before [] (c ∷ cs) h k = ap (λ b. cond (not b) (1 + word_len cs) 0) k
len_before (c ∷ cs) rest h k =
    let other : nat_eq c 32 ≡ false = (or_parts (nat_eq c 32) (has_byte 32 cs) h).0 in
    let later = len_before cs rest (or_parts (nat_eq c 32) (has_byte 32 cs) h).1 k in
    ap (λ b. cond (not b) (1 + word_len (cs ++ rest)) 0) other ∙ ap (λ n. 1 + n) later ∙ omega arith

pub first_here : (w rest : List ℕ) → is_word w ≡ true → ends_word rest ≡ true → first_word (w ++ rest) ≡ w
first_here w rest h k =
    ap (λ t. take (word_len t) t) (from_here w rest h) ∙ ap (λ n. take n (w ++ rest)) (len_before w rest (no_space w h) k) ∙ take-append_seam w rest

pub after_here : (w rest : List ℕ) → is_word w ≡ true → ends_word rest ≡ true → after_word (w ++ rest) ≡ rest
after_here w rest h k =
    ap (λ t. drop (word_len t) t) (from_here w rest h) ∙ ap (λ n. drop n (w ++ rest)) (len_before w rest (no_space w h) k) ∙ drop-append_seam w rest
