-- Moves under a mask, bit by bit.
use Rattle.std.proofs.Common.{◌≡◌, ℕ, ◌-◌, ◌^◌, ◌<◌, min, max, ℤ, bit_and, bit_or, w32, to_z, of_z, FitsSigned, ap, sym, ◌∙◌, arith}
use Rattle.std.specs.Int.{bit_at}
use Rattle.std.proofs.lemmas.Int.{of_z-to_z}
use Rattle.std.proofs.lemmas.Nat.{or_lt}
use Rattle.std.proofs.lemmas.Nat.Bits.{bit_at_and, bit_at_or, bit_at_not, bit_at-lt}
use Rattle.std.proofs.Math.Facts.{Fits-and, Fits-of_z, Fits-lt-pow, Fits-of_lt}
use Rattle.spec_scan.specs.Arithmetic.{masked_move}
use Rattle.lgx_math.specs.Laws.{bit_of, MaskedBitsAreMoved, OtherBitsStay}

-- the same on bits
abbrev pub moved_bits : ℕ → ℕ → ℕ → ℕ
moved_bits s m d = bit_or (bit_and s m) (bit_and d (4294967295 - m))

and_lt : (a b : ℕ) → a < 2 ^ 32 → bit_and a b < 2 ^ 32
and_lt a b f = Fits-lt-pow {w = w32} (Fits-and b (Fits-of_lt {w = w32} f))

-- bits that are made a signed number and taken apart again are the same bits
pub masked : (s m d : ℕ) → s < 2 ^ 32 → m < 2 ^ 32 → d < 2 ^ 32 → to_z w32 (moved_bits s m d) ≡ to_z w32 (bit_or (of_z w32 (to_z w32 (bit_and s m))) (of_z w32 (to_z w32 (bit_and d (of_z w32 (to_z w32 (4294967295 - m)))))))
masked s m d fs fm fd =
    let taken = of_z-to_z w32 (bit_and s m) (and_lt s m fs) in
    let others = of_z-to_z w32 (4294967295 - m) (omega arith) in
    let kept = of_z-to_z w32 (bit_and d (4294967295 - m)) (and_lt d (4294967295 - m) fd) in
    sym (ap (λ (k : ℕ). to_z w32 (bit_or k (of_z w32 (to_z w32 (bit_and d (of_z w32 (to_z w32 (4294967295 - m)))))))) taken
    ∙ ap (λ (k : ℕ). to_z w32 (bit_or (bit_and s m) (of_z w32 (to_z w32 (bit_and d k))))) others
    ∙ ap (λ (k : ℕ). to_z w32 (bit_or (bit_and s m) k)) kept)

pub word : (v : ℤ) → FitsSigned w32 v → of_z w32 v < 2 ^ 32
word v f = Fits-lt-pow {w = w32} (Fits-of_z f)

-- a bit of the result, by those of the three
bit_of-masked : (source mask dest : ℤ) (i : ℕ) → FitsSigned w32 source → FitsSigned w32 mask → FitsSigned w32 dest → i < 32 → bit_of (masked_move source mask dest) i ≡ max (min (bit_of source i) (bit_of mask i)) (min (bit_of dest i) (1 - bit_of mask i))
bit_of-masked source mask dest i fs fm fd within =
    let s = of_z w32 source in
    let m = of_z w32 mask in
    let d = of_z w32 dest in
    let fits = or_lt 32 (bit_and s m) (bit_and d (4294967295 - m)) (and_lt s m (word source fs)) (and_lt d (4294967295 - m) (word dest fd)) in
    ap (λ (v : ℤ). bit_at (of_z w32 v) i) (sym (masked s m d (word source fs) (word mask fm) (word dest fd)))
    ∙ ap (λ (k : ℕ). bit_at k i) (of_z-to_z w32 (moved_bits s m d) fits)
    ∙ bit_at_or (bit_and s m) (bit_and d (4294967295 - m)) i
    ∙ ap (λ (k : ℕ). max k (bit_at (bit_and d (4294967295 - m)) i)) (bit_at_and s m i)
    ∙ ap (λ (k : ℕ). max (min (bit_at s i) (bit_at m i)) k) (bit_at_and d (4294967295 - m) i)
    ∙ ap (λ (k : ℕ). max (min (bit_at s i) (bit_at m i)) (min (bit_at d i) k)) (bit_at_not w32 m i (word mask fm) within)

take_one : (s m d : ℕ) → s < 2 → m ≡ 1 → max (min s m) (min d (1 - m)) ≡ s
take_one s m d small is = omega arith

keep_one : (s m d : ℕ) → d < 2 → m ≡ 0 → max (min s m) (min d (1 - m)) ≡ d
keep_one s m d small is = omega arith

pub masked_bits_are_moved : MaskedBitsAreMoved
masked_bits_are_moved source mask dest i fs fm fd within is =
    bit_of-masked source mask dest i fs fm fd within
    ∙ take_one (bit_of source i) (bit_of mask i) (bit_of dest i) (bit_at-lt (of_z w32 source) i) is

pub other_bits_stay : OtherBitsStay
other_bits_stay source mask dest i fs fm fd within is =
    bit_of-masked source mask dest i fs fm fd within
    ∙ keep_one (bit_of source i) (bit_of mask i) (bit_of dest i) (bit_at-lt (of_z w32 dest) i) is
