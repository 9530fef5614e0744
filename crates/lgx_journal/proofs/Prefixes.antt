-- How many bytes at the beginning of a text pass a test.
use Rattle.std.proofs.Common.{◌≡◌, ℕ, zero, suc, ◌+◌, ◌<◌, List, [], ◌∷◌, length, get_or, take, drop, Bool, true, false, refl, ap, ◌∙◌, arith}
use Rattle.std.specs.List.{prefix_len}

-- the bytes before that place pass
abbrev pub Passed : (ℕ → Bool) → List ℕ → ℕ → Type 0
Passed p text i = (k : ℕ) → k < i → p (get_or text k 0) ≡ true

one_more : (p : ℕ → Bool) (c : ℕ) (cs : List ℕ) → p c ≡ true → prefix_len p (c ∷ cs) ≡ 1 + prefix_len p cs
one_more p c cs h = rw h refl

pub none_more : (p : ℕ → Bool) (c : ℕ) (cs : List ℕ) → p c ≡ false → prefix_len p (c ∷ cs) ≡ 0
none_more p c cs h = rw h refl

pub prefix_stops : (p : ℕ → Bool) (text : List ℕ) (i : ℕ) → Passed p text i → i < length text → p (get_or text i 0) ≡ false → prefix_len p text ≡ i
prefix_stops p [] i all inside is = absurd (omega arith)
prefix_stops p (c ∷ cs) zero all inside is = none_more p c cs is
prefix_stops p (c ∷ cs) (suc i) all inside is =
    let more = prefix_stops p cs i (λ k h. all (suc k) (omega arith)) (omega arith) is in
    one_more p c cs (all 0 (omega arith)) ∙ ap (λ n. 1 + n) more ∙ omega arith

pub prefix_whole : (p : ℕ → Bool) (text : List ℕ) → Passed p text (length text) → prefix_len p text ≡ length text
prefix_whole p [] all = refl
prefix_whole p (c ∷ cs) all =
    let more = prefix_whole p cs (λ k h. all (suc k) (omega arith)) in
    one_more p c cs (all 0 (omega arith)) ∙ ap (λ n. 1 + n) more ∙ omega arith

-- ---- what is left after the bytes that pass

abbrev left : (ℕ → Bool) → List ℕ → List ℕ
left p xs = drop (prefix_len p xs) xs

left_more : (p : ℕ → Bool) (x : ℕ) (xs : List ℕ) (b : Bool) → p x ≡ b → prefix_len p (left p xs) ≡ 0 → prefix_len p (left p (x ∷ xs)) ≡ 0
left_more p x xs true e i =
    let one : prefix_len p (x ∷ xs) ≡ suc (prefix_len p xs) = one_more p x xs e ∙ omega arith in
    ap (λ n. prefix_len p (drop n (x ∷ xs))) one ∙ i
left_more p x xs false e i = ap (λ n. prefix_len p (drop n (x ∷ xs))) (none_more p x xs e) ∙ none_more p x xs e

pub none_left : (p : ℕ → Bool) (xs : List ℕ) → prefix_len p (drop (prefix_len p xs) xs) ≡ 0
none_left p [] = refl
none_left p (x ∷ xs) = left_more p x xs (p x) refl (none_left p xs)

-- only the first byte matters where none passes
pub front_more : (p : ℕ → Bool) (x : ℕ) (xs ys : List ℕ) (b : Bool) → p x ≡ b → prefix_len p (x ∷ xs) ≡ 0 → prefix_len p (x ∷ ys) ≡ 0
front_more p x xs ys true e h = absurd (omega (arith, one_more p x xs e))
front_more p x xs ys false e h = none_more p x ys e

pub none_of_front : (p : ℕ → Bool) (n : ℕ) (xs : List ℕ) → prefix_len p xs ≡ 0 → prefix_len p (take n xs) ≡ 0
none_of_front p zero xs h = refl
none_of_front p (suc n) [] h = refl
none_of_front p (suc n) (x ∷ xs) h = front_more p x xs (take n xs) (p x) refl h
