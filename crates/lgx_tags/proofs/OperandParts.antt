-- Words and parts of a text, and its tokens.
use Rattle.std.specs.Prelude.{◌≡◌, ℕ, zero, suc, ◌-◌, ◌<◌, Bool, true, false, ◌&&◌, ◌||◌, ◌==◌, nat_le, if◌then◌else◌, List, [], ◌∷◌, ◌++◌, length, take, drop, None, refl}
use Rattle.std.specs.Char.{is_digit}
use Rattle.std.proofs.Common.{get_or, sym, subst, arith, take_all}
use Rattle.std.proofs.lemmas.List.{append-nil, take-append-drop}
use Rattle.std.proofs.lemmas.Bool.Decides.{nat_tests}
use Rattle.std.specs.List.{list_all, AllByRecursion as Each}
use Rattle.spec_language.specs.OperandForm.{Token, word, dot, opening, closing, are_digits, put_byte, put_token, tokens}
use Rattle.lgx_tags.specs.Parts.{first_part, is_mark, begins_marked, with_word}
use Rattle.std.proofs.lemmas.List.{take_rest}

-- a byte that is no mark, before what begins with one: it goes on the word
pub put_plain : (c : ℕ) (ts : List Token) → is_mark c ≡ false → put_token c ts ≡ put_byte c ts
put_plain c ts p = go (c == 46) (c == 91) (c == 93) p
  where
    go : (x y z : Bool) → (x || y || z) ≡ false → (if x then dot ∷ ts else if y then opening ∷ ts else if z then closing ∷ ts else put_byte c ts) ≡ put_byte c ts
    go true y z q = absurd (cc q)
    go false true z q = absurd (cc q)
    go false false true q = absurd (cc q)
    go false false false q = refl

-- no word goes on after a word
pub put_marked : (c : ℕ) (rest : List ℕ) → begins_marked rest ≡ true → put_byte c (tokens rest) ≡ word (c ∷ []) ∷ tokens rest
put_marked c [] p = refl
put_marked c (d ∷ ds) p = go (d == 46) (d == 91) (d == 93) p
  where
    go : (x y z : Bool) → (x || y || z) ≡ true → put_byte c (if x then dot ∷ tokens ds else if y then opening ∷ tokens ds else if z then closing ∷ tokens ds else put_byte d (tokens ds)) ≡ word (c ∷ []) ∷ (if x then dot ∷ tokens ds else if y then opening ∷ tokens ds else if z then closing ∷ tokens ds else put_byte d (tokens ds))
    go true y z q = refl
    go false true z q = refl
    go false false true q = refl
    go false false false q = absurd (cc q)

abbrev pub IsPlain : ℕ → Type 0
IsPlain c = is_mark c ≡ false

pub split_tokens : (w rest : List ℕ) → Each IsPlain w → begins_marked rest ≡ true → tokens (w ++ rest) ≡ with_word w (tokens rest)
split_tokens [] rest p e = refl
split_tokens (c ∷ []) rest p e = cc (put_plain c (tokens rest) p.0, put_marked c rest e)
split_tokens (c ∷ d ∷ w) rest p e =
    let more : tokens ((d ∷ w) ++ rest) ≡ word (d ∷ w) ∷ tokens rest = split_tokens (d ∷ w) rest p.1 e in
    let here : put_token c (tokens ((d ∷ w) ++ rest)) ≡ put_byte c (tokens ((d ∷ w) ++ rest)) = put_plain c (tokens ((d ∷ w) ++ rest)) p.0 in
    cc (here, more)

-- a text that begins with a plain byte begins with a word, and with no part
pub plain_no_part : (c : ℕ) (cs : List ℕ) → is_mark c ≡ false → first_part (tokens (c ∷ cs)) ≡ None
plain_no_part c cs p = rw (put_plain c (tokens cs) p) (go (tokens cs))
  where
    go : (ts : List Token) → first_part (put_byte c ts) ≡ None
    go [] = refl
    go (word w ∷ ts) = refl
    go (dot ∷ ts) = refl
    go (opening ∷ ts) = refl
    go (closing ∷ ts) = refl

-- ---- where a text is split

-- no mark stands before that place
abbrev pub NoMark : List ℕ → ℕ → Type 0
NoMark text i = (k : ℕ) → k < i → is_mark (get_or text k 0) ≡ false

plain_before : (text : List ℕ) (i : ℕ) → NoMark text i → Each IsPlain (take i text)
plain_before [] zero none = tt
plain_before [] (suc i) none = tt
plain_before (c ∷ cs) zero none = tt
plain_before (c ∷ cs) (suc i) none = (none 0 (omega arith), plain_before cs i (λ k h. none (suc k) (omega arith)))

marked_at : (text : List ℕ) (i : ℕ) → i < length text → is_mark (get_or text i 0) ≡ true → begins_marked (drop i text) ≡ true
marked_at [] i inside is = absurd (omega arith)
marked_at (c ∷ cs) zero inside is = is
marked_at (c ∷ cs) (suc i) inside is = marked_at cs i (omega arith) is

pub ended_at : (text : List ℕ) (i : ℕ) → i < length text → is_mark (get_or text i 0) ≡ true → begins_marked (take (length text - i) (drop i text)) ≡ true
ended_at text i inside is = rw (take_rest text i) (marked_at text i inside is)

pub tokens_at : (text : List ℕ) (i : ℕ) → NoMark text i → i < length text → is_mark (get_or text i 0) ≡ true → tokens text ≡ with_word (take i text) (tokens (take (length text - i) (drop i text)))
tokens_at text i none inside is =
    let all : take (length text - i) (drop i text) ≡ drop i text = take_rest text i in
    let split : tokens (take i text ++ drop i text) ≡ with_word (take i text) (tokens (drop i text)) = split_tokens (take i text) (drop i text) (plain_before text i none) (marked_at text i inside is) in
    rw all (subst (λ (t : List ℕ). tokens t ≡ with_word (take i text) (tokens (drop i text))) (take-append-drop i text) split)

pub whole_at : (text : List ℕ) (i : ℕ) → text ≡ take i text ++ take (length text - i) (drop i text)
whole_at text i = rw (take_rest text i) (sym (take-append-drop i text))

pub tokens_whole : (text : List ℕ) → NoMark text (length text) → tokens text ≡ with_word text []
tokens_whole text none =
    let all : take (length text) text ≡ text = take_all (length text) text (omega arith) in
    let split : tokens (text ++ []) ≡ with_word text [] = split_tokens text [] (subst (λ (t : List ℕ). Each IsPlain t) all (plain_before text (length text) none)) refl in
    subst (λ (t : List ℕ). tokens t ≡ with_word text []) (append-nil text) split

-- ---- digits

pub digit_test : (c : ℕ) → is_digit c 10 ≡ (nat_le 48 c && nat_le c 57)
digit_test c = grind (arith, nat_tests)

pub some_digits : (w : List ℕ) → 0 < length w → are_digits 10 w ≡ list_all (λ c. is_digit c 10) w
some_digits [] p = absurd (omega arith)
some_digits (c ∷ cs) p = refl
