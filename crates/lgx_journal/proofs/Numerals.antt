-- Numbers and names that are written are read back, and are words.
use Rattle.std.proofs.Common.{◌≡◌, ℕ, suc, ◌+◌, ◌-◌, ◌*◌, ◌<◌, ◌^◌, List, [], ◌∷◌, length, fold, Bool, true, false, cond, not, ◌&&◌, ◌||◌, nat_eq, nat_le, nat_lt, Some, None, ℤ, pos, negsuc, decimal, refl, sym, ap, ◌∙◌, arith, true≢false}
use Rattle.std.specs.Prelude.{neg_ℤ, int_le}
use Rattle.std.specs.Char.{is_ascii_digit}
use Rattle.std.specs.Fmt.{signed_decimal}
use Rattle.std.specs.List.{list_all}
use Rattle.std.specs.Str.{all_ascii_digits}
use Rattle.std.proofs.lemmas.Bool.{and_from, and_parts, or_parts, le-leb, lt-ltb, leb-true, not_from_false}
use Rattle.std.proofs.lemmas.Bool.Decides.{nat_tests}
use Rattle.std.proofs.lemmas.Fmt.{decimal_nonempty, length-decimal-le, digits_decimal, digits_value-decimal}
use Rattle.std.proofs.lemmas.Str.Parse.{IsNumeralModel, numerals_by_fold, tells_all_ascii_digits}
use Rattle.lgx_num.specs.Name.{is_name, is_name_byte}
use Rattle.spec_base.specs.declared.limits.TheConstants.{MAX_NAME_BYTES}
use Rattle.spec_base.specs.Pieces.{is_empty, has_byte}
use Rattle.spec_text.specs.TextLines.{value_of, is_digits, unsigned_of, as_i32, value_when, signed_of}
use Rattle.lgx_journal.specs.Written.{is_i32}
use Rattle.lgx_journal.proofs.Spelled.{is_word}
use Rattle.lgx_num.proofs.Names.{name_bytes}

-- ---- digits

abbrev reads : ℕ → List ℕ → ℕ
reads n ds = fold (λ m c. m * 10 + (c - 48)) n ds

own : IsNumeralModel (λ ds. all_ascii_digits ds ≡ true) (reads 0)
own = numerals_by_fold (λ ds. all_ascii_digits ds ≡ true) tells_all_ascii_digits reads (record { empty = λ n. refl; more = λ n c cs h. refl })

all_digits : (n : ℕ) → n < 2 ^ 64 → all_ascii_digits (decimal n) ≡ true
all_digits n h = digits_decimal own n h

value_back : (n : ℕ) → n < 2 ^ 64 → value_of (decimal n) ≡ n
value_back n h = digits_value-decimal own n h

digits_back : (n : ℕ) → n < 10 ^ 10 → is_digits (decimal n) ≡ true
digits_back n h =
    let small : n < 2 ^ 64 = omega arith in
    let some = decimal_nonempty n small in
    let few = length-decimal-le 10 n (omega arith) h small in
    and_from _ _ (and_from _ _ (le-leb 1 (length (decimal n)) some) (le-leb (length (decimal n)) 10 few)) (all_digits n small)

pub unsigned_back : (n : ℕ) → n < 2 ^ 32 → unsigned_of (decimal n) ≡ Some n
unsigned_back n h =
    let value = value_back n (omega arith) in
    let range : nat_lt (value_of (decimal n)) (2 ^ 32) ≡ true = ap (λ k. nat_lt k (2 ^ 32)) value ∙ lt-ltb n (2 ^ 32) h in
    let both : (is_digits (decimal n) && nat_lt (value_of (decimal n)) (2 ^ 32)) ≡ true = and_from _ _ (digits_back n (omega arith)) range in
    ap (λ b. cond b (Some (value_of (decimal n))) None) both ∙ ap Some value

-- a byte that is no digit stands in no number
pub foreign_digit : (m : ℕ) → is_ascii_digit m ≡ false → (ds : List ℕ) → all_ascii_digits ds ≡ true → has_byte m ds ≡ false
foreign_digit m h [] k = refl
foreign_digit m h (c ∷ cs) k =
    let two = and_parts (is_ascii_digit c) (all_ascii_digits cs) k in
    by_case (nat_eq c m) refl two.0 (foreign_digit m h cs two.1)
  where
    by_case : (b : Bool) → nat_eq c m ≡ b → is_ascii_digit c ≡ true → has_byte m cs ≡ false → (nat_eq c m || has_byte m cs) ≡ false
    by_case true e d i =
        let same : c ≡ m = grind (arith, nat_tests) in
        absurd (true≢false (sym d ∙ ap is_ascii_digit same ∙ h))
    by_case false e d i = ap (λ b. b || has_byte m cs) e ∙ i

pub clean_decimal : (m n : ℕ) → is_ascii_digit m ≡ false → n < 2 ^ 64 → has_byte m (decimal n) ≡ false
clean_decimal m n h k = foreign_digit m h (decimal n) (all_digits n k)

pub some_text : (ds : List ℕ) → 0 < length ds → not (is_empty ds) ≡ true
some_text [] h = absurd (omega arith)
some_text (c ∷ cs) h = refl

pub decimal_word : (n : ℕ) → n < 2 ^ 64 → is_word (decimal n) ≡ true
decimal_word n h = and_from _ _ (some_text (decimal n) (decimal_nonempty n h)) (not_from_false _ (clean_decimal 32 n refl h))

-- ---- values

plain_signed : (ds : List ℕ) → 0 < length ds → has_byte 45 ds ≡ false → signed_of ds ≡ value_when false ds
plain_signed [] h k = absurd (omega arith)
plain_signed (c ∷ cs) h k = ap (λ b. cond b (value_when true cs) (value_when false (c ∷ cs))) (or_parts (nat_eq c 45) (has_byte 45 cs) k).0

in_range : (v : ℤ) → is_i32 v ≡ true → as_i32 v ≡ Some v
in_range v h = ap (λ b. cond b (Some v) None) h

when_read : (b : Bool) (n : ℕ) (v : ℤ) → n < 10 ^ 10 → (cond b (neg_ℤ (pos n)) (pos n)) ≡ v → is_i32 v ≡ true → value_when b (decimal n) ≡ Some v
when_read true n v h e k =
    ap (λ d. cond d (as_i32 (neg_ℤ (pos (value_of (decimal n))))) None) (digits_back n h) ∙ ap (λ m. as_i32 (neg_ℤ (pos m))) (value_back n (omega arith)) ∙ ap as_i32 e ∙ in_range v k
when_read false n v h e k =
    ap (λ d. cond d (as_i32 (pos (value_of (decimal n)))) None) (digits_back n h) ∙ ap (λ m. as_i32 (pos m)) (value_back n (omega arith)) ∙ ap as_i32 e ∙ in_range v k

small_pos : (n : ℕ) → is_i32 (pos n) ≡ true → n < 2 ^ 31
small_pos n h = let two = and_parts (int_le (neg_ℤ (pos (2 ^ 31))) (pos n)) (int_le (pos n) (pos (2 ^ 31 - 1))) h in omega (arith, leb-true n (2 ^ 31 - 1) two.1)

small_neg : (n : ℕ) → is_i32 (negsuc n) ≡ true → n < 2 ^ 31
small_neg n h = let two = and_parts (int_le (neg_ℤ (pos (2 ^ 31))) (negsuc n)) (int_le (negsuc n) (pos (2 ^ 31 - 1))) h in omega (arith, leb-true n (2 ^ 31 - 1) two.0)

pub signed_back : (v : ℤ) → is_i32 v ≡ true → signed_of (signed_decimal v) ≡ Some v
signed_back (pos n) h =
    let small = small_pos n h in
    plain_signed (decimal n) (decimal_nonempty n (omega arith)) (clean_decimal 45 n refl (omega arith)) ∙ when_read false n (pos n) (omega arith) refl h
signed_back (negsuc n) h = let small = small_neg n h in when_read true (suc n) (negsuc n) (omega arith) refl h

pub clean_signed : (m : ℕ) (v : ℤ) → is_ascii_digit m ≡ false → nat_eq 45 m ≡ false → is_i32 v ≡ true → has_byte m (signed_decimal v) ≡ false
clean_signed m (pos n) h k r = let small = small_pos n r in clean_decimal m n h (omega arith)
clean_signed m (negsuc n) h k r = let small = small_neg n r in ap (λ b. b || has_byte m (decimal (suc n))) k ∙ clean_decimal m (suc n) h (omega arith)

pub signed_word : (v : ℤ) → is_i32 v ≡ true → is_word (signed_decimal v) ≡ true
signed_word (pos n) h = let small = small_pos n h in decimal_word n (omega arith)
signed_word (negsuc n) h = not_from_false _ (clean_signed 32 (negsuc n) refl refl h)

-- ---- names

foreign_byte : (m : ℕ) → is_name_byte m ≡ false → (cs : List ℕ) → list_all is_name_byte cs ≡ true → has_byte m cs ≡ false
foreign_byte m h [] k = refl
foreign_byte m h (c ∷ cs) k =
    let two = and_parts (is_name_byte c) (list_all is_name_byte cs) k in
    by_case (nat_eq c m) refl two.0 (foreign_byte m h cs two.1)
  where
    by_case : (b : Bool) → nat_eq c m ≡ b → is_name_byte c ≡ true → has_byte m cs ≡ false → (nat_eq c m || has_byte m cs) ≡ false
    by_case true e d i =
        let same : c ≡ m = grind (arith, nat_tests) in
        absurd (true≢false (sym d ∙ ap is_name_byte same ∙ h))
    by_case false e d i = ap (λ b. b || has_byte m cs) e ∙ i

pub clean_name : (m : ℕ) (w : List ℕ) → is_name_byte m ≡ false → is_name w ≡ true → has_byte m w ≡ false
clean_name m w h k = foreign_byte m h w (name_bytes w k)

some_name : (w : List ℕ) → is_name w ≡ true → not (is_empty w) ≡ true
some_name [] h = absurd (true≢false (sym (and_parts (nat_le 0 MAX_NAME_BYTES) false h).1))
some_name (c ∷ cs) h = refl

pub name_word : (w : List ℕ) → is_name w ≡ true → is_word w ≡ true
name_word w h = and_from _ _ (some_name w h) (not_from_false _ (clean_name 32 w refl h))
