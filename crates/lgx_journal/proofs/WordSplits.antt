-- The words of a line, one by one.
use Rattle.std.proofs.Common.{◌≡◌, ℕ, suc, ◌+◌, List, [], ◌∷◌, length, take, drop, filter, Bool, true, false, not, eqb, nat_eq, refl, sym, ap, ◌∙◌, arith, true≢false}
use Rattle.std.specs.List.{prefix_len}
use Rattle.std.proofs.lemmas.Bool.Decides.{nat_tests}
use Rattle.spec_base.specs.Pieces.{pieces, cut, is_empty}
use Rattle.spec_text.specs.TextLines.{is_space, words, from_word, word_len, first_word, after_word}

abbrev some_bytes : List ℕ → Bool
some_bytes w = not (is_empty w)

one : (n : ℕ) → 1 + n ≡ suc n
one n = omega arith

-- ---- spaces before a word

from_skip : (c : ℕ) (cs : List ℕ) → nat_eq c 32 ≡ true → from_word (c ∷ cs) ≡ from_word cs
from_skip c cs e = rw e (ap (λ k. drop k (c ∷ cs)) (one (prefix_len is_space cs)))

from_stay : (c : ℕ) (cs : List ℕ) → nat_eq c 32 ≡ false → from_word (c ∷ cs) ≡ c ∷ cs
from_stay c cs e = rw e refl

words_skip : (c : ℕ) (cs : List ℕ) → nat_eq c 32 ≡ true → words (c ∷ cs) ≡ words cs
words_skip c cs e = rw e refl

-- ---- the bytes of a word

len_more : (c : ℕ) (cs : List ℕ) → nat_eq c 32 ≡ false → word_len (c ∷ cs) ≡ suc (word_len cs)
len_more c cs e = rw e (one (word_len cs))

len_none : (c : ℕ) (cs : List ℕ) → nat_eq c 32 ≡ true → word_len (c ∷ cs) ≡ 0
len_none c cs e = rw e refl

-- the first piece, and that the others are those of the words after it
record Begins (text : List ℕ) : Type 0 where
  pub others : List (List ℕ)
  pub first : pieces 32 text ≡ take (word_len text) text ∷ others
  pub later : filter some_bytes others ≡ words (drop (word_len text) text)

pieces_space : (c : ℕ) (cs : List ℕ) → nat_eq c 32 ≡ true → pieces 32 (c ∷ cs) ≡ [] ∷ pieces 32 cs
pieces_space c cs e = rw e refl

pieces_more : (c : ℕ) (cs : List ℕ) → nat_eq c 32 ≡ false → pieces 32 (c ∷ cs) ≡ cut false c (pieces 32 cs)
pieces_more c cs e = rw e refl

begins_more : (c : ℕ) (cs : List ℕ) (b : Bool) → nat_eq c 32 ≡ b → Begins cs → Begins (c ∷ cs)
begins_more c cs true e i = record {
  others = pieces 32 cs;
  first = pieces_space c cs e ∙ ap (λ k. take k (c ∷ cs) ∷ pieces 32 cs) (sym (len_none c cs e));
  later = sym (words_skip c cs e) ∙ ap (λ k. words (drop k (c ∷ cs))) (sym (len_none c cs e));
}
begins_more c cs false e i = record {
  others = i.others;
  first = pieces_more c cs e ∙ ap (cut false c) i.first ∙ ap (λ k. take k (c ∷ cs) ∷ i.others) (sym (len_more c cs e));
  later = i.later ∙ ap (λ k. words (drop k (c ∷ cs))) (sym (len_more c cs e));
}

begins : (text : List ℕ) → Begins text
begins [] = record { others = []; first = refl; later = refl }
begins (c ∷ cs) = begins_more c cs (nat_eq c 32) refl (begins cs)

spaces_more : (c : ℕ) (cs : List ℕ) (b : Bool) → nat_eq c 32 ≡ b → words (from_word cs) ≡ words cs → words (from_word (c ∷ cs)) ≡ words (c ∷ cs)
spaces_more c cs true e i = ap words (from_skip c cs e) ∙ i ∙ sym (words_skip c cs e)
spaces_more c cs false e i = ap words (from_stay c cs e)

spaces_skipped : (text : List ℕ) → words (from_word text) ≡ words text
spaces_skipped [] = refl
spaces_skipped (c ∷ cs) = spaces_more c cs (nat_eq c 32) refl (spaces_skipped cs)

-- a word, and the words after it
onto_words : (w : List ℕ) (ws : List (List ℕ)) → eqb (length w) 0 ≡ false → filter some_bytes (w ∷ ws) ≡ w ∷ filter some_bytes ws
onto_words [] ws h = absurd (true≢false h)
onto_words (c ∷ cs) ws h = refl

pub words_next : (text : List ℕ) → eqb (length (first_word text)) 0 ≡ false → words text ≡ first_word text ∷ words (after_word text)
words_next text h =
    let b = begins (from_word text) in
    sym (spaces_skipped text) ∙ ap (filter some_bytes) b.first ∙ onto_words (first_word text) b.others h ∙ ap (λ ws. first_word text ∷ ws) b.later

-- ---- no word

abbrev head_of : List ℕ → List ℕ
head_of text = take (word_len text) text

some_head : (c : ℕ) (cs : List ℕ) → nat_eq c 32 ≡ false → eqb (length (first_word (c ∷ cs))) 0 ≡ false
some_head c cs e =
    let more : eqb (length (c ∷ take (word_len cs) cs)) 0 ≡ false = grind (arith, nat_tests) in
    ap (λ t. eqb (length (head_of t)) 0) (from_stay c cs e) ∙ ap (λ k. eqb (length (take k (c ∷ cs))) 0) (len_more c cs e) ∙ more

none_more : (c : ℕ) (cs : List ℕ) (b : Bool) → nat_eq c 32 ≡ b → (eqb (length (first_word cs)) 0 ≡ true → words cs ≡ []) → eqb (length (first_word (c ∷ cs))) 0 ≡ true → words (c ∷ cs) ≡ []
none_more c cs true e i h = words_skip c cs e ∙ i (sym (ap (λ t. eqb (length (head_of t)) 0) (from_skip c cs e)) ∙ h)
none_more c cs false e i h = absurd (true≢false (sym h ∙ some_head c cs e))

pub words_none : (text : List ℕ) → eqb (length (first_word text)) 0 ≡ true → words text ≡ []
words_none [] h = refl
words_none (c ∷ cs) h = none_more c cs (nat_eq c 32) refl (words_none cs) h
