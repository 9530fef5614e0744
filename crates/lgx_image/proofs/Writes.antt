-- Bytes that a write leaves as they were, or changes.
use Rattle.std.proofs.Common.{◌≡◌, ◌≢◌, ℕ, zero, suc, ◌+◌, ◌<◌, ◌≤◌, List, [], ◌∷◌, length, ℤ, get_or, set, refl, sym, ap, ◌∙◌, arith}
use Rattle.std.specs.Prelude.{EachIndex, FitsSigned}
use Rattle.std.specs.Int.{w32}
use Rattle.std.proofs.lemmas.List.{set-get_or}
use Rattle.lgx_num.specs.Number.{bytes_of, signed_of}
use Rattle.lgx_num.specs.Image.{piece, splice, signed_at, write_signed}
use Rattle.lgx_num.proofs.Images.{piece-splice}
use Rattle.lgx_num.proofs.Numbers.{bytes_of_their_number, number_of_its_bytes}
use Rattle.lgx_image.proofs.Pieces.{piece-at}

-- the bytes that are there
splice-piece : (l : List ℕ) (at n : ℕ) → splice l at (piece l at n) ≡ l
splice-piece l at zero = refl
splice-piece l at (suc n) = ap (λ m. splice m (at + 1) (piece l (at + 1) n)) (set-get_or l at 0) ∙ splice-piece l (at + 1) n

-- the bytes of the number that is there
pub same_dint : (l : List ℕ) (at : ℕ) (v : ℤ) → bytes_of v ≡ piece l at 4 → write_signed w32 l at v ≡ l
same_dint l at v is = ap (splice l at) is ∙ splice-piece l at 4

-- the number of these bytes has them
pub bytes_of_dint : (l : List ℕ) (at : ℕ) (v : ℤ) → ((i : ℕ) → get_or l i 0 < 256) → at + 4 ≤ length l → v ≡ signed_at w32 l at → bytes_of v ≡ piece l at 4
bytes_of_dint l at v small room is = ap bytes_of is ∙ bytes_of_their_number (piece l at 4) refl each
  where
    each : EachIndex (piece l at 4) (λ i. get_or (piece l at 4) i 0 < 256)
    each i within = rw (piece-at l at 4 i (at + i) within refl) (small (at + i))

-- four bytes that are put one after another
four_bytes : (l : List ℕ) (at a b c d : ℕ) → set (set (set (set l at a) (at + 1) b) (at + 2) c) (at + 3) d ≡ splice l at (a ∷ b ∷ c ∷ d ∷ [])
four_bytes l at a b c d =
    let two : at + 2 ≡ at + 1 + 1 = omega arith in
    let three : at + 3 ≡ at + 1 + 1 + 1 = omega arith in
    ap (λ k. set (set (set (set l at a) (at + 1) b) k c) (at + 3) d) two
    ∙ ap (λ k. set (set (set (set l at a) (at + 1) b) (at + 1 + 1) c) k d) three

-- another number than the one that is there
pub other_dint : (l low : List ℕ) (at : ℕ) (v : ℤ) → low ≡ bytes_of v → FitsSigned w32 v → at + 4 ≤ length l → signed_at w32 l at ≢ v
    → set (set (set (set l at (get_or low 0 0)) (at + 1) (get_or low 1 0)) (at + 2) (get_or low 2 0)) (at + 3) (get_or low 3 0) ≢ l
other_dint l low at v is fits room other same =
    let written : write_signed w32 l at v ≡ l =
    sym (four_bytes l at (get_or (bytes_of v) 0 0) (get_or (bytes_of v) 1 0) (get_or (bytes_of v) 2 0) (get_or (bytes_of v) 3 0))
    ∙ ap (λ (b : List ℕ). set (set (set (set l at (get_or b 0 0)) (at + 1) (get_or b 1 0)) (at + 2) (get_or b 2 0)) (at + 3) (get_or b 3 0)) (sym is)
    ∙ same in
    other (ap (λ m. signed_at w32 m at) (sym written) ∙ ap (signed_of w32) (piece-splice l at (bytes_of v) room) ∙ number_of_its_bytes v fits)
