-- Pieces of an image that are copied.
use Rattle.std.proofs.Common.{◌≡◌, ℕ, zero, suc, ◌+◌, ◌-◌, ◌<◌, ◌≤◌, inl, inr, List, [], ◌∷◌, length, get_or, set, refl, sym, ap, ◌∙◌, arith, length-set, get_or-set_same}
use Rattle.std.specs.List.{CopiedTo, SameBelow, SameFrom}
use Rattle.std.proofs.lemmas.Bool.{cases_lt}
use Rattle.std.proofs.lemmas.List.{ext_get_or}
use Rattle.lgx_num.specs.Image.{piece, splice}
use Rattle.lgx_num.proofs.Images.{length-piece, length-splice, splice_before, splice_behind}

pub piece-at : (image : List ℕ) (at n i k : ℕ) → i < n → k ≡ at + i → get_or (piece image at n) i 0 ≡ get_or image k 0
piece-at image at zero i k within is = absurd (omega arith)
piece-at image at (suc n) zero k within is = let e : at ≡ k = omega arith in ap (λ j. get_or image j 0) e
piece-at image at (suc n) (suc i) k within is = piece-at image (at + 1) n i k (omega arith) (omega arith)

pub splice-at : (image : List ℕ) (at : ℕ) (bs : List ℕ) (i k : ℕ) → at + length bs ≤ length image → i < length bs → k ≡ at + i → get_or (splice image at bs) k 0 ≡ get_or bs i 0
splice-at image at [] i k room within is = absurd (omega arith)
splice-at image at (b ∷ bs) zero k room within is =
    let e : k ≡ at = omega arith in
    rw e (splice_before (set image at b) (at + 1) bs at (omega arith) ∙ get_or-set_same image at b 0 (omega arith))
splice-at image at (b ∷ bs) (suc i) k room within is =
    splice-at (set image at b) (at + 1) bs i k (omega (arith, length-set image at b)) (omega arith) (omega arith)

pub copied_piece : (old new : List ℕ) (source target size n : ℕ) → n ≡ size → length new ≡ length old → target + size ≤ length old → CopiedTo old new source target n → SameBelow old new target → SameFrom old new (target + n) → new ≡ splice old target (piece old source size)
copied_piece old new source target size n same len room copied below from =
    ext_get_or 0 new (splice old target (piece old source size))
    (len ∙ sym (length-splice old target (piece old source size)))
    (λ k within. each k)
  where
    each : (k : ℕ) → get_or new k 0 ≡ get_or (splice old target (piece old source size)) k 0
    each k =
        let m = length-piece old source size in
        elim (cases_lt k target) [
          | inl before ↦ below k 0 before ∙ sym (splice_before old target (piece old source size) k before)
          | inr on ↦ elim (cases_lt k (target + size)) [
            | inl inside ↦
                copied k 0 on (omega arith)
                ∙ sym (splice-at old target (piece old source size) (k - target) k (omega arith) (omega arith) (omega arith)
                ∙ piece-at old source size (k - target) (source + (k - target)) (omega arith) refl)
            | inr after ↦ from k 0 (omega arith) ∙ sym (splice_behind old target (piece old source size) k (omega arith))
          ]
        ]
