-- A line feed at the end of a text changes nothing of what is read.
use Rattle.std.proofs.Common.{◌≡◌, ℕ, suc, ◌+◌, ◌-◌, ◌==◌, Bool, true, false, cond, ◌&&◌, ◌||◌, nat_eq, nat_lt, zero, List, [], ◌∷◌, ◌++◌, length, take, drop, Option, Some, None, option_map, option_and_then, refl, ap, ap₂, ◌∙◌, arith, length-append}
use Rattle.std.specs.Prelude.{⊤}
use Rattle.std.specs.List.{prefix_len, starts_with}
use Rattle.std.specs.Char.{is_ascii_digit, is_digit, encode_utf8}
use Rattle.std.proofs.lemmas.List.{take-append-le, drop-append-le}
use Rattle.std.proofs.lemmas.List.Sums.{prefix_len-le-length}
use Rattle.json.specs.Text.{code_unit, short_escape, is_high_surrogate, is_low_surrogate, surrogate_pair, Within, plain, after_backslash, after_u, after_high, prepend, content}
use Rattle.json.specs.Word.{ends_word, after_digits, after_minus, after_sign, after_whole, after_fraction, after_exponent, after_number, number_before, literal, word}
use Rattle.json.specs.Token.{Token, number, boolean, null, bad}
use Rattle.json.specs.Lex.{token, Class, quote, backslash, operator, space, other, class, operator_lexeme, string_token, Mode, between, in_word, in_string, in_escape, lex_byte, lex, fresh, punctuate}
use Rattle.json.specs.Ascii as ascii
use Rattle.json.specs.Json as json
use Rattle.serde_json.specs.Read.{of_json, max_depth, read}

abbrev ended : List ℕ → List ℕ
ended xs = xs ++ 10 ∷ []

-- ---- the content of a string

and_then_same : {A B : Type 0} (f g : A → Option B) → ((a : A) → f a ≡ g a) → (o : Option A) → option_and_then f o ≡ option_and_then g o
and_then_same f g h None = refl
and_then_same f g h (Some a) = h a

no_unit_at : (b : Bool) (u : ℕ) → cond (b && false) (Some u) None ≡ None
no_unit_at true u = refl
no_unit_at false u = refl

no_unit : (a b c : ℕ) → code_unit a b c 10 ≡ None
unfolding code_unit
no_unit a b c = no_unit_at (is_digit a 16 && is_digit b 16 && is_digit c 16) _

either_none : {A : Type 0} (b : Bool) (o : Option A) → o ≡ None → cond b o None ≡ None
either_none true o e = e
either_none false o e = refl

content_ended : (w : Within) (xs : List ℕ) → content w (ended xs) ≡ content w xs
unfolding content short_escape
content_ended plain [] = refl
content_ended plain (x ∷ xs) =
    ap₂ (λ a b. cond (x == ascii.quote) (Some []) (cond (x == ascii.backslash) a (cond (nat_lt x ascii.space) None (prepend (x ∷ []) b))))
    (content_ended after_backslash xs) (content_ended plain xs)
content_ended after_backslash [] = refl
content_ended after_backslash (x ∷ xs) =
    ap₂ (λ a b. cond (x == ascii.lower_u) a (option_and_then (λ c. prepend (c ∷ []) b) (short_escape x)))
    (content_ended after_u xs) (content_ended plain xs)
content_ended after_u [] = refl
content_ended after_u (a ∷ []) = refl
content_ended after_u (a ∷ b ∷ []) = refl
content_ended after_u (a ∷ b ∷ c ∷ []) =
    ap (option_and_then (λ u. cond (is_high_surrogate u) (content (after_high u) []) (cond (is_low_surrogate u) None (prepend (encode_utf8 u) (content plain []))))) (no_unit a b c)
content_ended after_u (a ∷ b ∷ c ∷ d ∷ xs) =
    and_then_same _ _ (λ u. ap₂ (λ p q. cond (is_high_surrogate u) p (cond (is_low_surrogate u) None (prepend (encode_utf8 u) q))) (content_ended (after_high u) xs) (content_ended plain xs)) (code_unit a b c d)
content_ended (after_high h) [] = refl
content_ended (after_high h) (s ∷ []) = refl
content_ended (after_high h) (s ∷ u ∷ []) = refl
content_ended (after_high h) (s ∷ u ∷ a ∷ []) = refl
content_ended (after_high h) (s ∷ u ∷ a ∷ b ∷ []) = refl
content_ended (after_high h) (s ∷ u ∷ a ∷ b ∷ c ∷ []) =
    either_none ((s == ascii.backslash) && (u == ascii.lower_u)) _
    (ap (option_and_then (λ l. cond (is_low_surrogate l) (prepend (encode_utf8 (surrogate_pair h l)) (content plain [])) None)) (no_unit a b c))
content_ended (after_high h) (s ∷ u ∷ a ∷ b ∷ c ∷ d ∷ xs) =
    ap (λ q. cond ((s == ascii.backslash) && (u == ascii.lower_u)) (option_and_then (λ l. cond (is_low_surrogate l) (prepend (encode_utf8 (surrogate_pair h l)) q) None) (code_unit a b c d)) None)
    (content_ended plain xs)

-- ---- a word, part by part

ends_ended : (t : List ℕ) → ends_word (ended t) ≡ ends_word t
ends_ended [] = refl
ends_ended (x ∷ t) = refl

cond_ended : (b : Bool) (s t : List ℕ) → cond b (ended s) (ended t) ≡ ended (cond b s t)
cond_ended true s t = refl
cond_ended false s t = refl

abbrev rest_ended : Option (List ℕ) → Option (List ℕ)
rest_ended o = option_map ended o

cond_rest : (b : Bool) (o p : Option (List ℕ)) → cond b (rest_ended o) (rest_ended p) ≡ rest_ended (cond b o p)
cond_rest true o p = refl
cond_rest false o p = refl

after_minus_ended : (t : List ℕ) → after_minus (ended t) ≡ ended (after_minus t)
after_minus_ended [] = refl
after_minus_ended (x ∷ t) = cond_ended (x == ascii.minus) t (x ∷ t)

after_sign_ended : (t : List ℕ) → after_sign (ended t) ≡ ended (after_sign t)
after_sign_ended [] = refl
after_sign_ended (x ∷ t) = cond_ended ((x == ascii.minus) || (x == ascii.plus)) t (x ∷ t)

digits_ended : (t : List ℕ) → prefix_len is_ascii_digit (ended t) ≡ prefix_len is_ascii_digit t
digits_ended [] = refl
digits_ended (x ∷ t) = ap (λ n. cond (is_ascii_digit x) (1 + n) 0) (digits_ended t)

after_digits_ended : (t : List ℕ) → after_digits (ended t) ≡ rest_ended (after_digits t)
after_digits_ended t =
    let n = prefix_len is_ascii_digit t in
    ap (λ k. cond (k == 0) None (Some (drop k (ended t)))) (digits_ended t)
    ∙ ap (λ s. cond (n == 0) None (Some s)) (drop-append-le n t (10 ∷ []) (prefix_len-le-length is_ascii_digit t))
    ∙ cond_rest (n == 0) None (Some (drop n t))

after_whole_ended : (t : List ℕ) → after_whole (ended t) ≡ rest_ended (after_whole t)
after_whole_ended [] = refl
after_whole_ended (x ∷ t) =
    ap (λ o. cond (x == ascii.zero) (Some (ended t)) o) (after_digits_ended (x ∷ t)) ∙ cond_rest (x == ascii.zero) (Some t) (after_digits (x ∷ t))

after_fraction_ended : (t : List ℕ) → after_fraction (ended t) ≡ rest_ended (after_fraction t)
after_fraction_ended [] = refl
after_fraction_ended (x ∷ t) =
    ap (λ o. cond (x == ascii.dot) o (Some (ended (x ∷ t)))) (after_digits_ended t) ∙ cond_rest (x == ascii.dot) (after_digits t) (Some (x ∷ t))

after_exponent_ended : (t : List ℕ) → after_exponent (ended t) ≡ rest_ended (after_exponent t)
after_exponent_ended [] = refl
after_exponent_ended (x ∷ t) =
    let marks = (x == ascii.lower_e) || (x == ascii.upper_e) in
    ap (λ o. cond marks o (Some (ended (x ∷ t)))) (ap after_digits (after_sign_ended t) ∙ after_digits_ended (after_sign t))
    ∙ cond_rest marks (after_digits (after_sign t)) (Some (x ∷ t))

then_ended : (g : List ℕ → Option (List ℕ)) → ((t : List ℕ) → g (ended t) ≡ rest_ended (g t)) → (o : Option (List ℕ)) → option_and_then g (rest_ended o) ≡ rest_ended (option_and_then g o)
then_ended g h None = refl
then_ended g h (Some t) = h t

after_number_ended : (t : List ℕ) → after_number (ended t) ≡ rest_ended (after_number t)
unfolding after_number
after_number_ended t =
    let whole = after_whole (after_minus t) in
    ap (λ o. option_and_then after_exponent (option_and_then after_fraction o)) (ap after_whole (after_minus_ended t) ∙ after_whole_ended (after_minus t))
    ∙ ap (option_and_then after_exponent) (then_ended after_fraction after_fraction_ended whole)
    ∙ then_ended after_exponent after_exponent_ended (option_and_then after_fraction whole)

length_ended : (t : List ℕ) → length (ended t) ≡ length t + 1
length_ended t = length-append t (10 ∷ [])

taken_ended : (r t : List ℕ) → take (length (ended t) - length (ended r)) (ended t) ≡ take (length t - length r) t
taken_ended r t =
    let same : length (ended t) - length (ended r) ≡ length t - length r = omega (arith, length_ended t, length_ended r) in
    ap (λ n. take n (ended t)) same ∙ take-append-le (length t - length r) t (10 ∷ []) (omega arith)

number_before_ended : (t : List ℕ) (o : Option (List ℕ)) → number_before (ended t) (rest_ended o) ≡ number_before t o
number_before_ended t None = refl
number_before_ended t (Some r) = ap₂ (λ e s. cond e (number s) bad) (ends_ended r) (taken_ended r t)

abbrev HasNoLineFeed : List ℕ → Type 0
HasNoLineFeed [] = ⊤
HasNoLineFeed (x ∷ xs) = (nat_eq x 10 ≡ false) × HasNoLineFeed xs

starts_ended : (name t : List ℕ) → HasNoLineFeed name → starts_with nat_eq (ended t) name ≡ starts_with nat_eq t name
starts_ended [] t h = refl
starts_ended (n ∷ name) [] h = rw h.0 refl
starts_ended (n ∷ name) (x ∷ t) h = ap (λ b. nat_eq n x && b) (starts_ended name t h.1)

rest_ends : (n : ℕ) (t : List ℕ) → ends_word (drop n (ended t)) ≡ ends_word (drop n t)
rest_ends zero t = ends_ended t
rest_ends (suc n) [] = past n
  where
    past : (n : ℕ) → ends_word (drop n []) ≡ true
    past zero = refl
    past (suc n) = refl
rest_ends (suc n) (x ∷ t) = rest_ends n t

literal_ended : (name : List ℕ) (k : Token) (t : List ℕ) → HasNoLineFeed name → literal name k (ended t) ≡ literal name k t
literal_ended name k t h = ap₂ (λ a b. cond (a && b) k bad) (starts_ended name t h) (rest_ends (length name) t)

word_ended : (x : ℕ) (xs : List ℕ) → word (x ∷ ended xs) ≡ word (x ∷ xs)
unfolding word
word_ended x xs =
    let t = x ∷ xs in
    ap₂ (λ a b. cond (x == ascii.lower_t) a (cond (x == ascii.lower_f) (literal ascii.false_text (boolean false) (ended t)) b))
    (literal_ended ascii.true_text (boolean true) t (refl, (refl, (refl, (refl, tt)))))
    (ap₂ (λ a b. cond (x == ascii.lower_n) a b) (literal_ended ascii.null_text null t (refl, (refl, (refl, (refl, tt)))))
    (ap (number_before (ended t)) (after_number_ended t) ∙ number_before_ended t (after_number t)))
    ∙ ap (λ a. cond (x == ascii.lower_t) (literal ascii.true_text (boolean true) t) (cond (x == ascii.lower_f) a (cond (x == ascii.lower_n) (literal ascii.null_text null t) (number_before t (after_number t)))))
    (literal_ended ascii.false_text (boolean false) t (refl, (refl, (refl, (refl, (refl, tt))))))

-- ---- lexemes

by_class : (m : Mode) (c : Class) (x : ℕ) (xs : List ℕ) → ((next : Mode) → lex next (ended xs) ≡ lex next xs)
    → lex_byte m c x (ended xs) (λ next. lex next (ended xs)) ≡ lex_byte m c x xs (λ next. lex next xs)
by_class between quote x xs h = ap₂ (λ o ls. token (string_token o) ∷ ls) (content_ended plain xs) (h in_string)
by_class between backslash x xs h = ap (λ ls. token bad ∷ ls) (h in_word)
by_class between operator x xs h = ap (λ ls. operator_lexeme x ∷ ls) (h between)
by_class between space x xs h = h between
by_class between other x xs h = ap₂ (λ w ls. token w ∷ ls) (word_ended x xs) (h in_word)
by_class in_word quote x xs h = h in_word
by_class in_word backslash x xs h = h in_word
by_class in_word operator x xs h = ap (λ ls. operator_lexeme x ∷ ls) (h between)
by_class in_word space x xs h = h between
by_class in_word other x xs h = h in_word
by_class in_string quote x xs h = h between
by_class in_string backslash x xs h = h in_escape
by_class in_string operator x xs h = h in_string
by_class in_string space x xs h = h in_string
by_class in_string other x xs h = h in_string
by_class in_escape c x xs h = h in_string

lex_ended : (m : Mode) (xs : List ℕ) → lex m (ended xs) ≡ lex m xs
unfolding lex
lex_ended between [] = refl
lex_ended in_word [] = refl
lex_ended in_string [] = refl
lex_ended in_escape [] = refl
lex_ended m (x ∷ xs) = by_class m (class x) x xs (λ next. lex_ended next xs)

pub read_ended : (text : List ℕ) → read (text ++ 10 ∷ []) ≡ read text
read_ended text = ap (λ ls. option_and_then of_json (option_and_then (λ p. json.if_last p.0 p.1) (json.value max_depth (punctuate fresh ls)))) (lex_ended between text)
