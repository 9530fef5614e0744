-- Digits and the number that they make, up to a greatest one.
use Rattle.std.specs.Prelude.{◌≡◌, ℕ, zero, suc, ◌+◌, ◌*◌, ◌<◌, ◌≤◌, Bool, true, false, not, ◌&&◌, ◌==◌, nat_lt, min, List, [], ◌∷◌, length, Ok, Err, fold, filter, drop, refl}
use Rattle.std.specs.List.{list_all}
use Rattle.std.specs.Char.{is_digit, digit_value}
use Rattle.std.proofs.Common.{get_or, sym, arith, add-one, drop-cons, ltb-true}
use Rattle.std.proofs.lemmas.Bool.Decides.{nat_tests}
use Rattle.std.proofs.lemmas.List.{drop_all}
use Rattle.lgx_num.specs.Name.{is_name}
use Rattle.spec_language.specs.declared.types.Base.{Base}
use Rattle.spec_language.specs.declared.types.Base.TheVariants.{Bool as OneBit, Sint, Int, Dint, Timer, Counter, User}
use Rattle.spec_language.specs.declared.types.TypeDecl.{TypeDecl}
use Rattle.spec_language.specs.declared.tag.TagCode.TheVariants.{G5, G10}
use Rattle.spec_language.specs.declared.tag.Found.{Found}
use Rattle.spec_base.specs.FirstCause.{◌>>=◌, unless}
use Rattle.spec_language.specs.Layout.{single}
use Rattle.spec_language.specs.Resolution.{is_array, is_integer, integer_bits, stride, find_member, find_element, find_bit}
use Rattle.lgx_tags.specs.TextReading.{find_dotted}
use Rattle.spec_language.specs.OperandForm.{are_digits, digits_number}

-- the number that digits make after a number, or the greatest where that is greater
abbrev pub capped : ℕ → List ℕ → ℕ
capped n [] = n
capped n (c ∷ cs) = capped (min (n * 10 + digit_value c) 4294967295) cs

no_gap : (c : ℕ) → is_digit c 10 ≡ true → (c == 95) ≡ false
no_gap c p = grind (arith, nat_tests)

min_step : (n d most : ℕ) → min (min n most * 10 + d) most ≡ min (n * 10 + d) most
min_step n d most = omega arith

capped_from : (n : ℕ) (cs : List ℕ) → list_all (λ c. is_digit c 10) cs ≡ true → capped (min n 4294967295) cs ≡ min (fold (λ n c. n * 10 + digit_value c) n (filter (λ c. not (c == 95)) cs)) 4294967295
capped_from n [] p = refl
capped_from n (c ∷ cs) p = go (is_digit c 10) refl p (λ q. capped_from (n * 10 + digit_value c) cs q)
  where
    go : (b : Bool) → is_digit c 10 ≡ b → (b && list_all (λ c. is_digit c 10) cs) ≡ true → (list_all (λ c. is_digit c 10) cs ≡ true → capped (min (n * 10 + digit_value c) 4294967295) cs ≡ min (fold (λ n c. n * 10 + digit_value c) (n * 10 + digit_value c) (filter (λ c. not (c == 95)) cs)) 4294967295) → capped (min n 4294967295) (c ∷ cs) ≡ min (fold (λ n c. n * 10 + digit_value c) n (filter (λ c. not (c == 95)) (c ∷ cs))) 4294967295
    go false e q known = absurd (cc q)
    go true e q known = rw (no_gap c e, min_step n (digit_value c) 4294967295) (known q)

pub capped_digits : (cs : List ℕ) → are_digits 10 cs ≡ true → capped 0 cs ≡ min (digits_number 10 cs) 4294967295
capped_digits [] p = absurd (cc p)
capped_digits (c ∷ cs) p = capped_from 0 (c ∷ cs) p

pub capped_at : (n i : ℕ) (cs : List ℕ) → i < length cs → capped n (drop i cs) ≡ capped (min (n * 10 + digit_value (get_or cs i 0)) 4294967295) (drop (i + 1) cs)
capped_at n i cs h = rw (drop-cons cs i 0, add-one) refl

pub capped_end : (n i : ℕ) (cs : List ℕ) → length cs ≤ i → capped n (drop i cs) ≡ n
capped_end n i cs h = rw (drop_all i cs h) refl

all_at : (ds : List ℕ) (i : ℕ) → list_all (λ c. is_digit c 10) ds ≡ true → i < length ds → is_digit (get_or ds i 0) 10 ≡ true
all_at [] i q l = absurd (omega arith)
all_at (d ∷ ds) zero q l = go (is_digit d 10) refl q
  where
    go : (b : Bool) → is_digit d 10 ≡ b → (b && list_all (λ c. is_digit c 10) ds) ≡ true → is_digit d 10 ≡ true
    go false e r = absurd (cc r)
    go true e r = e
all_at (d ∷ ds) (suc i) q l = all_at ds i (go (is_digit d 10) q) (omega arith)
  where
    go : (b : Bool) → (b && list_all (λ c. is_digit c 10) ds) ≡ true → list_all (λ c. is_digit c 10) ds ≡ true
    go false r = absurd (cc r)
    go true r = r

pub digit_at : (cs : List ℕ) (i : ℕ) → are_digits 10 cs ≡ true → i < length cs → is_digit (get_or cs i 0) 10 ≡ true
digit_at [] i p h = absurd (omega arith)
digit_at (c ∷ cs) i p h = all_at (c ∷ cs) i p h

-- ---- a number that is too great

few_bits : (base : Base) → integer_bits base ≤ 32
few_bits OneBit = omega arith
few_bits Sint = omega arith
few_bits Int = omega arith
few_bits Dint = omega arith
few_bits Timer = omega arith
few_bits Counter = omega arith
few_bits (User i) = omega arith

pub capped_bit : (f : Found) (n : ℕ) → find_bit f (min n 4294967295) ≡ find_bit f n
capped_bit f n = go (is_integer f.of) (integer_bits f.of.base) (few_bits f.of.base)
  where
    inner : (bits : ℕ) → bits ≤ 32 → (b : Bool) → nat_lt n bits ≡ b → (unless (nat_lt (min n 4294967295) bits) G5 >>= λ _. Ok (record f { at = f.at + min n 4294967295; of = single OneBit })) ≡ (unless (nat_lt n bits) G5 >>= λ _. Ok (record f { at = f.at + n; of = single OneBit }))
    inner bits h true e = let same : min n 4294967295 ≡ n = omega (arith, ltb-true n bits e) in rw same refl
    inner bits h false e = let none : nat_lt (min n 4294967295) bits ≡ false = grind (arith, nat_tests) in rw (none, e) refl

    go : (a : Bool) (bits : ℕ) → bits ≤ 32 → (unless a G5 >>= λ _. unless (nat_lt (min n 4294967295) bits) G5 >>= λ _. Ok (record f { at = f.at + min n 4294967295; of = single OneBit })) ≡ (unless a G5 >>= λ _. unless (nat_lt n bits) G5 >>= λ _. Ok (record f { at = f.at + n; of = single OneBit }))
    go false bits h = refl
    go true bits h = inner bits h (nat_lt n bits) refl

pub capped_element : (types : List TypeDecl) (f : Found) (n : ℕ) → f.of.dim ≤ 4294967295 → find_element types f (min n 4294967295) ≡ find_element types f n
capped_element types f n h = go (is_array f.of)
  where
    inner : (b : Bool) → nat_lt n f.of.dim ≡ b → (unless (nat_lt (min n 4294967295) f.of.dim) G5 >>= λ _. Ok (record f { at = f.at + min n 4294967295 * stride types f.of.base; of = single f.of.base })) ≡ (unless (nat_lt n f.of.dim) G5 >>= λ _. Ok (record f { at = f.at + n * stride types f.of.base; of = single f.of.base }))
    inner true e = let same : min n 4294967295 ≡ n = omega (arith, ltb-true n f.of.dim e) in rw same refl
    inner false e = let none : nat_lt (min n 4294967295) f.of.dim ≡ false = grind (arith, nat_tests) in rw (none, e) refl

    go : (a : Bool) → (unless a G5 >>= λ _. unless (nat_lt (min n 4294967295) f.of.dim) G5 >>= λ _. Ok (record f { at = f.at + min n 4294967295 * stride types f.of.base; of = single f.of.base })) ≡ (unless a G5 >>= λ _. unless (nat_lt n f.of.dim) G5 >>= λ _. Ok (record f { at = f.at + n * stride types f.of.base; of = single f.of.base }))
    go false = refl
    go true = inner (nat_lt n f.of.dim) refl

-- ---- words after a dot

pub dotted_name : (types : List TypeDecl) (f : Found) (w : List ℕ) → is_name w ≡ true → find_dotted types f w ≡ find_member types f w
dotted_name types f w p = rw p refl

pub dotted_digits : (types : List TypeDecl) (f : Found) (w : List ℕ) → is_name w ≡ false → are_digits 10 w ≡ true → find_dotted types f w ≡ find_bit f (min (digits_number 10 w) 4294967295)
dotted_digits types f w p q = rw (p, q) (sym (capped_bit f (digits_number 10 w)))

pub dotted_none : (types : List TypeDecl) (f : Found) (w : List ℕ) → is_name w ≡ false → are_digits 10 w ≡ false → find_dotted types f w ≡ Err G10
dotted_none types f w p q = rw (p, q) refl
