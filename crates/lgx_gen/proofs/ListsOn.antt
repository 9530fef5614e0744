-- A list with one element more.
use Rattle.std.proofs.Common.{◌≡◌, ℕ, zero, suc, ◌+◌, List, [], ◌∷◌, ◌++◌, map, refl, ap, ◌∙◌, sym, arith, append_assoc}
use Rattle.std.specs.List.{join_with_byte, range_with_len}
use Rattle.std.proofs.lemmas.Bool.{ne_eqb}
use Rattle.std.proofs.lemmas.List.{append-nil}
use Rattle.std.proofs.lemmas.List.FromFn.{map-range_with_len_more}
use Rattle.lgx_gen.specs.Listed.{listed, comma_before}

-- one piece more, after a comma
join_more : (c : ℕ) (x : List ℕ) (xs : List (List ℕ)) (y : List ℕ) → join_with_byte c ((x ∷ xs) ++ y ∷ []) ≡ join_with_byte c (x ∷ xs) ++ c ∷ y
join_more c x [] y = refl
join_more c x (z ∷ xs) y = ap (λ t. x ++ c ∷ t) (join_more c z xs y) ∙ sym (append_assoc x (c ∷ join_with_byte c (z ∷ xs)) (c ∷ y))

pub listed-none : (text : ℕ → List ℕ) → listed text 0 ≡ []
unfolding listed
listed-none text = refl

pub listed-more : (text : ℕ → List ℕ) (count : ℕ) → listed text count ++ comma_before count ++ text count ≡ listed text (count + 1)
unfolding listed
listed-more text zero = refl
listed-more text (suc k) =
    let e = map-range_with_len_more text 0 (suc k) (suc k) (omega arith) in
    let later = ne_eqb (suc k) 0 (λ zero'. absurd (omega (arith, zero'))) in
    rw (e, later) (append_assoc (listed text (suc k)) (44 ∷ []) (text (suc k)) ∙ sym (join_more 44 (text 0) (map text (range_with_len (0 + 1) k)) (text (suc k))))

-- lists of the same texts
pub listed-same : (f g : ℕ → List ℕ) (count : ℕ) → ((k : ℕ) → f k ≡ g k) → listed f count ≡ listed g count
unfolding listed
listed-same f g count same = ap (join_with_byte 44) (maps 0 count)
  where
    maps : (a n : ℕ) → map f (range_with_len a n) ≡ map g (range_with_len a n)
    maps a zero = refl
    maps a (suc n) = cc (same a, maps (a + 1) n)

-- a text that ends with a list, with one element more
pub listed-push : (t : List ℕ) (text : ℕ → List ℕ) (count : ℕ) → t ++ listed text count ++ comma_before count ++ text count ≡ t ++ listed text (count + 1)
listed-push t text count =
    append_assoc (t ++ listed text count) (comma_before count) (text count)
    ∙ append_assoc t (listed text count) (comma_before count ++ text count)
    ∙ ap (λ s. t ++ s) (sym (append_assoc (listed text count) (comma_before count) (text count)) ∙ listed-more text count)

-- a text that ends with no list yet
pub listed-start : (t : List ℕ) (text : ℕ → List ℕ) → t ≡ t ++ listed text 0
listed-start t text = sym (append-nil t) ∙ ap (λ s. t ++ s) (sym (listed-none text))
