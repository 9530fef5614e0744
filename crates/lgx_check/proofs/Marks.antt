-- Numbers by the pieces of their text.
use Rattle.std.proofs.Common.{◌≡◌, ℕ, Bool, true, false, List, [], ◌∷◌, refl, ap, ◌∙◌, arith, None}
use Rattle.std.specs.Prelude.{◌==◌, nat_eq}
use Rattle.std.specs.Char.{is_ascii_digit, is_digit}
use Rattle.std.specs.List.{list_all}
use Rattle.std.proofs.lemmas.Bool.{or_parts}
use Rattle.std.proofs.lemmas.Bool.Decides.{nat_tests}
use Rattle.spec_base.specs.Pieces.{cut, pieces}
use Rattle.spec_base.proofs.Splits.{some_piece}
use Rattle.spec_language.specs.OperandForm.{are_digits, are_grouped, base_of, based_number, decimal_number, number, number_in}
use Rattle.lgx_check.specs.Numbers.{begins_number}
use Rattle.lgx_check.proofs.Digits.{all_other}

-- ---- the number that a text is, by its pieces

pub number_alone : (text : List ℕ) → pieces 35 text ≡ text ∷ [] → number text ≡ decimal_number text
number_alone text e = ap number_in e

pub number_based : (text base digits : List ℕ) → pieces 35 text ≡ base ∷ pieces 35 digits → pieces 35 digits ≡ digits ∷ [] → number text ≡ based_number (base_of base) digits
number_based text base digits e f = ap number_in (e ∙ ap (λ ps. base ∷ ps) f)

pub number_none : (text base digits first rest : List ℕ) → pieces 35 text ≡ base ∷ pieces 35 digits → pieces 35 digits ≡ first ∷ pieces 35 rest → number text ≡ None
number_none text base digits first rest e f =
    let more = some_piece 35 rest in
    ap number_in (e ∙ ap (λ ps. base ∷ ps) (f ∙ ap (λ ps. first ∷ ps) more.2))

-- ---- what begins otherwise is no number

no_base : (c : ℕ) (cs : List ℕ) → is_ascii_digit c ≡ false → base_of (c ∷ cs) ≡ None
no_base c cs e =
    let two : nat_eq 50 c ≡ false = grind (arith, nat_tests) in
    let eight : nat_eq 56 c ≡ false = grind (arith, nat_tests) in
    let sixteen : nat_eq 49 c ≡ false = grind (arith, nat_tests) in
    rw (two, eight, sixteen) refl

no_groups : (c : ℕ) (cs : List ℕ) → is_ascii_digit c ≡ false → are_grouped 10 (c ∷ cs) ≡ false
no_groups c cs e = go (nat_eq c 95)
  where
    digit : is_digit c 10 ≡ false
    digit = grind (arith, nat_tests)

    go : (b : Bool) → list_all (are_digits 10) (cut b c (pieces 95 cs)) ≡ false
    go true = refl
    go false = all_other 10 c (pieces 95 cs) digit

no_decimal : (c : ℕ) (cs : List ℕ) → (c == 45) ≡ false → is_ascii_digit c ≡ false → decimal_number (c ∷ cs) ≡ None
no_decimal c cs minus e = rw (minus, no_groups c cs e) refl

pub no_number : (text : List ℕ) → begins_number text ≡ false → number text ≡ None
no_number [] h = refl
no_number (c ∷ cs) h = go (nat_eq c 35) (pieces 35 cs)
  where
    parts : ((c == 45) ≡ false) × (is_ascii_digit c ≡ false)
    parts = or_parts (c == 45) (is_ascii_digit c) h

    go : (b : Bool) (ps : List (List ℕ)) → number_in (cut b c ps) ≡ None
    go true [] = refl
    go true (p ∷ []) = refl
    go true (p ∷ q ∷ ps) = refl
    go false [] = no_decimal c [] parts.0 parts.1
    go false (p ∷ []) = no_decimal c p parts.0 parts.1
    go false (p ∷ q ∷ []) = ap (λ base. based_number base q) (no_base c p parts.1)
    go false (p ∷ q ∷ r ∷ ps) = refl
