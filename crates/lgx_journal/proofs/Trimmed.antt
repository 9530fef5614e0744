-- A text without blanks at its ends is the text of an edit.
use Rattle.std.proofs.Common.{◌≡◌, ℕ, zero, suc, ◌+◌, ◌-◌, ◌≤◌, List, [], ◌∷◌, length, length-drop, take, drop, get_or, Bool, true, false, not, ◌||◌, nat_le, nat_eq, IsTrue, refl, ap, ◌∙◌, arith, true≢false}
use Rattle.std.specs.List.{list_any, prefix_len, suffix_len}
use Rattle.std.proofs.Math.Seq.{take-length}
use Rattle.std.proofs.lemmas.Bool.{and_from, and_parts, leb-true, le-leb, not-true, not_from_false}
use Rattle.std.proofs.lemmas.List.{length-take-le}
use Rattle.std.proofs.lemmas.List.Sums.{suffix_len-take_no, suffix_len-take_yes}
use Rattle.std.proofs.lemmas.Slice.Eq.{bytes_eq-Decides}
use Rattle.spec_base.specs.declared.limits.TheConstants.{MAX_LINE_BYTES}
use Rattle.lgx_rung.specs.Tokens.{is_blank}
use Rattle.spec_machine.specs.EditText.{trimmed, is_edit_text}
use Rattle.spec_text.specs.TextLines.{is_space, from_word, word_len, after_word}
use Rattle.lgx_journal.specs.Lines.{is_part}
use Rattle.lgx_journal.proofs.Prefixes.{none_left, none_of_front}
use Rattle.std.proofs.lemmas.Bool.{or_parts}

-- ---- what a text hasn't, a part of it hasn't

with_first : (a b c : Bool) → (a || b) ≡ false → c ≡ false → (a || c) ≡ false
with_first true b c h k = absurd (true≢false h)
with_first false b c h k = k

pub none_in_drop : (p : ℕ → Bool) (n : ℕ) (xs : List ℕ) → list_any p xs ≡ false → list_any p (drop n xs) ≡ false
none_in_drop p zero xs h = h
none_in_drop p (suc n) [] h = refl
none_in_drop p (suc n) (x ∷ xs) h = none_in_drop p n xs (or_parts (p x) (list_any p xs) h).1

pub none_in_take : (p : ℕ → Bool) (n : ℕ) (xs : List ℕ) → list_any p xs ≡ false → list_any p (take n xs) ≡ false
none_in_take p zero xs h = refl
none_in_take p (suc n) [] h = refl
none_in_take p (suc n) (x ∷ xs) h = with_first (p x) (list_any p xs) (list_any p (take n xs)) h (none_in_take p n xs (or_parts (p x) (list_any p xs) h).1)

abbrev foreign : ℕ → Bool
foreign c = nat_eq c 10 || nat_eq c 124

part_of : (text sub : List ℕ) → length sub ≤ length text → (list_any foreign text ≡ false → list_any foreign sub ≡ false) → IsTrue (is_part text) → IsTrue (is_part sub)
part_of text sub h f is =
    let both = and_parts (nat_le (length text) MAX_LINE_BYTES) (not (list_any foreign text)) is in
    let fits = leb-true (length text) MAX_LINE_BYTES both.0 in
    and_from _ _ (le-leb (length sub) MAX_LINE_BYTES (omega arith)) (not_from_false _ (f (not-true _ both.1)))

pub part_after : (text : List ℕ) → IsTrue (is_part text) → IsTrue (is_part (after_word text))
part_after text is =
    part_of text (after_word text)
    (omega (arith, length-drop (word_len (from_word text)) (from_word text), length-drop (prefix_len is_space text) text))
    (λ h. none_in_drop foreign (word_len (from_word text)) (from_word text) (none_in_drop foreign (prefix_len is_space text) text h))
    is

-- ---- nothing is left to trim

abbrev IsTrimmed : (ℕ → Bool) → List ℕ → Type 0
IsTrimmed p xs = suffix_len p (take (length xs - suffix_len p xs) xs) ≡ 0

abbrev pub TrimmedTo : (ℕ → Bool) → List ℕ → ℕ → Type 0
TrimmedTo p xs n = suffix_len p xs ≡ (length xs - n) + suffix_len p (take n xs)

trim_one : (p : ℕ → Bool) (xs : List ℕ) (n : ℕ) (b : Bool) → p (get_or xs (suc n - 1) 0) ≡ b → suc n ≤ length xs → TrimmedTo p xs (suc n) → (n ≤ length xs → TrimmedTo p xs n → IsTrimmed p xs) → IsTrimmed p xs
trim_one p xs n true f h e later =
    let back : suc n - 1 ≡ n = omega arith in
    let one = suffix_len-take_yes p xs (suc n) 0 (omega arith) h f ∙ ap (λ k. 1 + suffix_len p (take k xs)) back in
    later (omega arith) (omega (arith, one))
trim_one p xs n false f h e later =
    let none = suffix_len-take_no p xs (suc n) 0 (omega arith) h f in
    let k : length xs - suffix_len p xs ≡ suc n = omega (arith, none) in
    ap (λ m. suffix_len p (take m xs)) k ∙ none

trim_end : (p : ℕ → Bool) (xs : List ℕ) (n : ℕ) → n ≤ length xs → TrimmedTo p xs n → IsTrimmed p xs
trim_end p xs zero h e =
    let k : length xs - suffix_len p xs ≡ 0 = omega arith in
    ap (λ n. suffix_len p (take n xs)) k
trim_end p xs (suc n) h e =
    trim_one p xs n (p (get_or xs (suc n - 1) 0)) refl h e (λ k f. trim_end p xs n k f)

pub no_suffix : (p : ℕ → Bool) (xs : List ℕ) → suffix_len p (take (length xs - suffix_len p xs) xs) ≡ 0
no_suffix p xs =
    let all : suffix_len p (take (length xs) xs) ≡ suffix_len p xs = ap (suffix_len p) (take-length xs) in
    trim_end p xs (length xs) (omega arith) (omega (arith, all))

whole : (text : List ℕ) → take (length text - 0) text ≡ text
whole text = let k : length text - 0 ≡ length text = omega arith in ap (λ n. take n text) k ∙ take-length text

stays : (text : List ℕ) → prefix_len is_blank text ≡ 0 → suffix_len is_blank text ≡ 0 → trimmed text ≡ text
stays text h k =
    ap (λ n. take (length (drop n text) - suffix_len is_blank (drop n text)) (drop n text)) h
    ∙ ap (λ m. take (length text - m) text) k
    ∙ whole text

pub trimmed_twice : (text : List ℕ) → trimmed (trimmed text) ≡ trimmed text
trimmed_twice text =
    let front = drop (prefix_len is_blank text) text in
    stays (trimmed text) (none_of_front is_blank (length front - suffix_len is_blank front) front (none_left is_blank text)) (no_suffix is_blank front)

trimmed_part : (text : List ℕ) → IsTrue (is_part text) → IsTrue (is_part (trimmed text))
trimmed_part text is =
    let front = drop (prefix_len is_blank text) text in
    let kept = length front - suffix_len is_blank front in
    part_of text (trimmed text)
    (omega (arith, length-drop (prefix_len is_blank text) text, length-take-le kept front (omega arith)))
    (λ h. none_in_take foreign kept front (none_in_drop foreign (prefix_len is_blank text) text h))
    is

pub trimmed_is_text : (text : List ℕ) → IsTrue (is_part text) → IsTrue (is_edit_text (trimmed text))
trimmed_is_text text is = and_from _ _ (trimmed_part text is) ((bytes_eq-Decides (trimmed (trimmed text)) (trimmed text)).1 (trimmed_twice text))

-- a loop that takes blanks off the end
pub trimmed_at : (text front : List ℕ) (n : ℕ) → front ≡ drop (prefix_len is_blank text) text → n ≤ length front → TrimmedTo is_blank front n → suffix_len is_blank (take n front) ≡ 0 → take n front ≡ trimmed text
trimmed_at text front n e h k stop =
    let size : n ≡ length front - suffix_len is_blank front = omega arith in
    ap (λ m. take m front) size ∙ ap (λ (t : List ℕ). take (length t - suffix_len is_blank t) t) e
