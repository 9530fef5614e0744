-- Digits with single underscores between them, and the number that they make, up to a greatest one.
use Rattle.std.specs.Prelude.{◌≡◌, ℕ, ◌+◌, ◌*◌, ◌<◌, ◌≤◌, Bool, true, false, not, ◌&&◌, ◌==◌, nat_lt, nat_le, min, List, [], ◌∷◌, length, pos, neg_ℤ, Option, Some, None, option_and_then, fold, filter, drop, refl, if◌then◌else◌}
use Rattle.std.specs.List.{list_all}
use Rattle.std.specs.Int.{w32, cast_signed}
use Rattle.std.specs.Char.{is_digit, digit_value}
use Rattle.std.proofs.Common.{◌⊎◌, inl, inr, get_or, sym, ap, ◌∙◌, arith, add-one, drop-cons}
use Rattle.std.proofs.Math.Nat.{le-mul_of_pos_right, mul-le-mul_right}
use Rattle.std.proofs.lemmas.Bool.{cases_lt}
use Rattle.std.proofs.lemmas.Bool.Decides.{nat_tests}
use Rattle.std.proofs.lemmas.List.{drop_all}
use Rattle.spec_base.specs.Pieces.{cut, pieces}
use Rattle.lgx_check.specs.Numbers.{read_byte}
use Rattle.lgx_check.specs.declared.number.Reading.{Reading}
use Rattle.spec_language.specs.OperandForm.{are_digits, are_grouped, digits_number, within}

-- ---- reading digit by digit

-- the number that is read from here on, after what was read
abbrev pub read_from : ℕ → Reading → List ℕ → Option ℕ
read_from base r [] = if r.after_digit then Some r.number else None
read_from base r (c ∷ cs) = option_and_then (λ s. read_from base s cs) (read_byte base r c)

abbrev pub read_next : ℕ → Option Reading → List ℕ → Option ℕ
read_next base o cs = option_and_then (λ s. read_from base s cs) o

-- whether what is left is digits in groups, after a digit or not
abbrev grouped_from : ℕ → Bool → List ℕ → Bool
grouped_from base after [] = after
grouped_from base after (c ∷ cs) = if is_digit c base then grouped_from base true cs else if after && c == 95 then grouped_from base false cs else false

pub read_at : (base i : ℕ) (r : Reading) (cs : List ℕ) → i < length cs → read_from base r (drop i cs) ≡ read_next base (read_byte base r (get_or cs i 0)) (drop (i + 1) cs)
read_at base i r cs h = rw (drop-cons cs i 0, add-one) refl

pub read_end : (base i : ℕ) (r : Reading) (cs : List ℕ) → length cs ≤ i → read_from base r (drop i cs) ≡ (if r.after_digit then Some r.number else None)
read_end base i r cs h = rw (drop_all i cs h) refl

-- ---- groups are the pieces between underscores

-- pieces of which the first may be empty
abbrev continued : ℕ → List (List ℕ) → Bool
continued base [] = true
continued base (p ∷ ps) = list_all (λ c. is_digit c base) p && list_all (are_digits base) ps

continued_digit : (base c : ℕ) (ps : List (List ℕ)) → is_digit c base ≡ true → continued base (cut false c ps) ≡ continued base ps
continued_digit base c [] e = rw e refl
continued_digit base c (p ∷ ps) e = rw e refl

all_digit : (base c : ℕ) (ps : List (List ℕ)) → is_digit c base ≡ true → list_all (are_digits base) (cut false c ps) ≡ continued base ps
all_digit base c [] e = rw e refl
all_digit base c (p ∷ ps) e = rw e refl

continued_other : (base c : ℕ) (ps : List (List ℕ)) → is_digit c base ≡ false → continued base (cut false c ps) ≡ false
continued_other base c [] e = rw e refl
continued_other base c (p ∷ ps) e = rw e refl

pub all_other : (base c : ℕ) (ps : List (List ℕ)) → is_digit c base ≡ false → list_all (are_digits base) (cut false c ps) ≡ false
all_other base c [] e = rw e refl
all_other base c (p ∷ ps) e = rw e refl

-- an underscore is no digit
no_digit : (base c : ℕ) → base ≤ 16 → is_digit c base ≡ true → (c == 95) ≡ false
no_digit base c h e = grind (arith, nat_tests)

-- both at once, by what the next byte is
pub grouped_pieces : (base : ℕ) → base ≤ 16 → (cs : List ℕ) → (grouped_from base true cs ≡ continued base (pieces 95 cs)) × (grouped_from base false cs ≡ list_all (are_digits base) (pieces 95 cs))
grouped_pieces base h [] = (refl, refl)
grouped_pieces base h (c ∷ cs) = go (is_digit c base) refl (c == 95) refl (grouped_pieces base h cs)
  where
    go : (d : Bool) → is_digit c base ≡ d → (u : Bool) → (c == 95) ≡ u
        → (grouped_from base true cs ≡ continued base (pieces 95 cs)) × (grouped_from base false cs ≡ list_all (are_digits base) (pieces 95 cs))
        → (grouped_from base true (c ∷ cs) ≡ continued base (pieces 95 (c ∷ cs))) × (grouped_from base false (c ∷ cs) ≡ list_all (are_digits base) (pieces 95 (c ∷ cs)))
    go true e u f known =
        rw (no_digit base c h e, e)
        (known.0 ∙ sym (continued_digit base c (pieces 95 cs) e), known.0 ∙ sym (all_digit base c (pieces 95 cs) e))
    go false e true f known = rw (f, e) (known.1, refl)
    go false e false f known = rw (f, e) (sym (continued_other base c (pieces 95 cs) e), sym (all_other base c (pieces 95 cs) e))

-- ---- what is read is the number, up to the greatest

min_step : (n base d most : ℕ) → 0 < base → min (min n most * base + d) most ≡ min (n * base + d) most
min_step n base d most h = go (cases_lt n most)
  where
    go : (n < most) ⊎ (most ≤ n) → min (min n most * base + d) most ≡ min (n * base + d) most
    go (inl low) = let same : min n most ≡ n = omega arith in rw same refl
    go (inr high) =
        let same : min n most ≡ most = omega arith in
        let big : most ≤ most * base = le-mul_of_pos_right most h in
        let bigger : most * base ≤ n * base = mul-le-mul_right base high in
        rw same (omega arith)

abbrev value_from : ℕ → ℕ → List ℕ → ℕ
value_from base n cs = fold (λ n c. n * base + digit_value c) n (filter (λ c. not (c == 95)) cs)

-- what is read after a number, maybe a digit before it
abbrev WhatIsRead : ℕ → List ℕ → Type 0
WhatIsRead base cs = (n : ℕ) (after : Bool) → read_from base (record { number = min n 4294967296; after_digit = after }) cs ≡ (if grouped_from base after cs then Some (min (value_from base n cs) 4294967296) else None)

one_more : (base : ℕ) → 0 < base → base ≤ 16 → (c : ℕ) (cs : List ℕ) → WhatIsRead base cs → (d : Bool) → is_digit c base ≡ d → (u : Bool) → (c == 95) ≡ u → (n : ℕ) (after : Bool)
    → read_from base (record { number = min n 4294967296; after_digit = after }) (c ∷ cs) ≡ (if grouped_from base after (c ∷ cs) then Some (min (value_from base n (c ∷ cs)) 4294967296) else None)
one_more base some h c cs known true e u f n after = rw (no_digit base c h e, e, min_step n base (digit_value c) 4294967296 some) (known (n * base + digit_value c) true)
one_more base some h c cs known false e true f n true = rw (f, e) (known n false)
one_more base some h c cs known false e true f n false = rw (f, e) refl
one_more base some h c cs known false e false f n true = rw (f, e) refl
one_more base some h c cs known false e false f n false = rw (f, e) refl

read_value : (base : ℕ) → 0 < base → base ≤ 16 → (cs : List ℕ) → WhatIsRead base cs
read_value base some h [] n after = refl
read_value base some h (c ∷ cs) n after = one_more base some h c cs (read_value base some h cs) (is_digit c base) refl (c == 95) refl n after

pub read_whole : (base : ℕ) (cs : List ℕ) → 2 ≤ base → base ≤ 16 → read_from base (record { number = 0; after_digit = false }) cs ≡ (if are_grouped base cs then Some (min (digits_number base cs) 4294967296) else None)
read_whole base cs some h =
    read_value base (omega arith) h cs 0 false
    ∙ ap (λ b. if b then Some (min (digits_number base cs) 4294967296) else None) (grouped_pieces base h cs).1

-- ---- a number that is too great

pub capped_positive : (n : ℕ) → within (nat_lt (min n 4294967296) 2147483648) (pos (min n 4294967296)) ≡ within (nat_lt n 2147483648) (pos n)
capped_positive n = go (nat_lt n 2147483648) refl
  where
    go : (b : Bool) → nat_lt n 2147483648 ≡ b → within (nat_lt (min n 4294967296) 2147483648) (pos (min n 4294967296)) ≡ within (nat_lt n 2147483648) (pos n)
    go true e = let same : min n 4294967296 ≡ n = grind (arith, nat_tests) in rw same refl
    go false e = let none : nat_lt (min n 4294967296) 2147483648 ≡ false = grind (arith, nat_tests) in rw (none, e) refl

pub capped_negative : (n : ℕ) → within (nat_le (min n 4294967296) 2147483648) (neg_ℤ (pos (min n 4294967296))) ≡ within (nat_le n 2147483648) (neg_ℤ (pos n))
capped_negative n = go (nat_le n 2147483648) refl
  where
    go : (b : Bool) → nat_le n 2147483648 ≡ b → within (nat_le (min n 4294967296) 2147483648) (neg_ℤ (pos (min n 4294967296))) ≡ within (nat_le n 2147483648) (neg_ℤ (pos n))
    go true e = let same : min n 4294967296 ≡ n = grind (arith, nat_tests) in rw same refl
    go false e = let none : nat_le (min n 4294967296) 2147483648 ≡ false = grind (arith, nat_tests) in rw (none, e) refl

pub capped_cast : (n : ℕ) → within (nat_lt (min n 4294967296) 4294967296) (cast_signed w32 (min n 4294967296)) ≡ within (nat_lt n 4294967296) (cast_signed w32 n)
capped_cast n = go (nat_lt n 4294967296) refl
  where
    go : (b : Bool) → nat_lt n 4294967296 ≡ b → within (nat_lt (min n 4294967296) 4294967296) (cast_signed w32 (min n 4294967296)) ≡ within (nat_lt n 4294967296) (cast_signed w32 n)
    go true e = let same : min n 4294967296 ≡ n = grind (arith, nat_tests) in rw same refl
    go false e = let none : nat_lt (min n 4294967296) 4294967296 ≡ false = grind (arith, nat_tests) in rw (none, e) refl
