-- The least number above others, and lists that grow.
use Rattle.std.proofs.Common.{◌≡◌, ℕ, suc, ◌+◌, ◌-◌, ◌<◌, ◌≤◌, max, List, [], ◌∷◌, ◌++◌, length, get_or, set, replicate, take, inl, inr, refl, sym, ap, ◌∙◌, append_assoc, append-nil, take_all, length-append, length-set, arith}
use Rattle.std.proofs.lemmas.Bool.{cases_lt}
use Rattle.std.proofs.lemmas.List.{get_or_append_left, get_or-append_right, get_or_past, get_or-replicate, length-replicate, replicate-append-replicate}
use Rattle.lgx_cover.specs.Counts.{above}
use Rattle.lgx_cover.specs.Tables.{grown}

-- one number more
pub above_more : (ns : List ℕ) (n : ℕ) → above (ns ++ n ∷ []) ≡ max (above ns) (n + 1)
above_more [] n = omega arith
above_more (m ∷ ns) n = let rest = above_more ns n in omega (arith, rest)

-- ---- a grown list

-- nothing but what stands for a missing element
filled : {A : Type 0} (n i : ℕ) (none : A) → get_or (replicate n none) i none ≡ none
filled n i none = elim (cases_lt i n) [
  | inl h ↦ get_or-replicate n i none none h
  | inr h ↦ get_or_past (replicate n none) i none (let is = length-replicate n none in omega arith)
]

-- looked up, it is as before
pub get_grown : {A : Type 0} (xs : List A) (i j : ℕ) (none : A) → get_or (grown xs i none) j none ≡ get_or xs j none
get_grown xs i j none = elim (cases_lt j (length xs)) [
  | inl h ↦ get_or_append_left xs (replicate (suc i - length xs) none) none j h
  | inr h ↦ get_or-append_right xs (replicate (suc i - length xs) none) (length xs) j none refl h ∙ (filled (suc i - length xs) (j - length xs) none ∙ sym (get_or_past xs j none h))
]

pub length_grown : {A : Type 0} (xs : List A) (i : ℕ) (none : A) → length (grown xs i none) ≡ max (length xs) (i + 1)
length_grown xs i none =
    let filling = length-replicate (suc i - length xs) none in
    omega (arith, length-append xs (replicate (suc i - length xs) none))

-- its length once it was written
pub length_written : {A : Type 0} (xs : List A) (i : ℕ) (none x : A) → length (set (grown xs i none) i x) ≡ max (length xs) (i + 1)
length_written xs i none x = length-set (grown xs i none) i x ∙ length_grown xs i none

-- ---- how a list grows

-- one element more
pub one_longer : {A : Type 0} (xs : List A) (n : ℕ) (none : A) → (xs ++ replicate n none) ++ none ∷ [] ≡ xs ++ replicate (n + 1) none
one_longer xs n none =
    append_assoc xs (replicate n none) (none ∷ []) ∙ ap (λ t. xs ++ t) (replicate-append-replicate n 1 none)

-- to a place, and one element more
pub grown_by : {A : Type 0} (xs : List A) (i : ℕ) (none : A) → length xs ≤ i → (take i xs ++ replicate (i - length xs) none) ++ none ∷ [] ≡ grown xs i none
grown_by xs i none h =
    ap (λ t. (t ++ replicate (i - length xs) none) ++ none ∷ []) (take_all i xs h)
    ∙ (one_longer xs (i - length xs) none ∙ ap (λ n. xs ++ replicate n none) (let n : (i - length xs) + 1 ≡ suc i - length xs = omega arith in n))

-- it has the place already
pub grown_already : {A : Type 0} (xs : List A) (i : ℕ) (none : A) → i < length xs → xs ≡ grown xs i none
grown_already xs i none h =
    sym (append-nil xs) ∙ ap (λ n. xs ++ replicate n none) (let n : 0 ≡ suc i - length xs = omega arith in n)

-- it has as many elements as it is to have
pub grown_to : {A : Type 0} (xs ys : List A) (i : ℕ) (none : A) → ys ≡ xs ++ replicate (length ys - length xs) none → length xs ≤ length ys → length ys ≤ max (length xs) (i + 1) → i < length ys → ys ≡ grown xs i none
grown_to xs ys i none is more few has =
    is ∙ ap (λ n. xs ++ replicate n none) (let n : length ys - length xs ≡ suc i - length xs = omega arith in n)
