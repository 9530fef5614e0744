-- A text from one of its lines on.
use Rattle.std.specs.Io.BufRead.{take_through}
use Rattle.std.proofs.Common.{◌≡◌, ℕ, ◌+◌, ◌-◌, List, [], ◌++◌, length, drop, take, take_all, length-drop, sym, ap, ◌∙◌, arith}
use Rattle.std.proofs.lemmas.List.{take-append-drop, drop-drop}

-- a line, which was cut off what is from a byte on, and what is behind it
pub next_line : (xs shown front line : List ℕ) (at n : ℕ) → shown ≡ xs → front ≡ [] → line ≡ front ++ take n (take (length shown - at) (drop at shown))
    → drop at xs ≡ line ++ drop (at + n) xs
next_line xs shown front line at n same empty is =
    let whole : take (length shown - at) (drop at shown) ≡ drop at shown = take_all (length shown - at) (drop at shown) (omega (arith, length-drop at shown)) in
    let is_front : line ≡ take n (drop at xs) = is ∙ (ap (λ f. f ++ take n (take (length shown - at) (drop at shown))) empty ∙ (ap (λ l. take n l) whole ∙ ap (λ l. take n (drop at l)) same)) in
    sym (take-append-drop n (drop at xs)) ∙ (ap (λ t. t ++ drop n (drop at xs)) (sym is_front) ∙ ap (λ t. line ++ t) (drop-drop n at xs))

-- and where that many bytes are those up to the first LF, it is one line
pub one_line : (xs shown front line : List ℕ) (at n : ℕ) → shown ≡ xs → front ≡ [] → line ≡ front ++ take n (take (length shown - at) (drop at shown))
    → take n (take (length shown - at) (drop at shown)) ≡ take_through 10 (take (length shown - at) (drop at shown)) → line ≡ take_through 10 (drop at xs)
one_line xs shown front line at n same empty is cut =
    let whole : take (length shown - at) (drop at shown) ≡ drop at shown = take_all (length shown - at) (drop at shown) (omega (arith, length-drop at shown)) in
    is ∙ (ap (λ f. f ++ take n (take (length shown - at) (drop at shown))) empty ∙ (cut ∙ (ap (λ l. take_through 10 l) whole ∙ ap (λ l. take_through 10 (drop at l)) same)))
