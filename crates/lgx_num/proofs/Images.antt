-- The laws of the image.
use Rattle.std.proofs.Common.{◌≡◌, ◌≢◌, ℕ, zero, suc, ◌+◌, ◌-◌, ◌*◌, ◌/◌, ◌%◌, ◌^◌, ◌<◌, ◌≤◌, ◌⊎◌, inl, inr, lit<, List, [], ◌∷◌, length, ℤ, pos, get_or, set, bit_and, bit_or, ◌==◌, refl, ◌∙◌, ap, arith, length-set, get_or-set_same, get_or-set_other}
use Rattle.std.specs.Int.{w8, w16, w32, bit_at, bit_not}
use Rattle.std.proofs.lemmas.Bool.{cases_eq, cond_both}
use Rattle.std.proofs.lemmas.Nat.{pow_below}
use Rattle.std.proofs.lemmas.Nat.Bits.{bit_at_and, bit_at_or, bit_at-pow_same, bit_at-pow_other, bit_at_not, bit_at-lt}
use Rattle.lgx_num.specs.declared.number.Kind.{Kind}
use Rattle.lgx_num.specs.declared.number.Kind.TheVariants.{Bool as KBool, Sint, Int, Dint}
use Rattle.lgx_num.specs.Number.{low_bits, store_low, signed_bytes, signed_of}
use Rattle.lgx_num.specs.Image.{piece, splice, with_bit, number_of, write_of, bits_of, IsByteAligned, InBoundsAt}
use Rattle.lgx_num.specs.Laws.{ReadsWhatWasWritten, OtherPlacesStay, WriteKeepsLength}
use Rattle.lgx_num.proofs.Numbers.{low_bits_below, signed_of-bytes_8, signed_of-bytes_16, signed_of-bytes_32}

-- ---- pieces

pub length-splice : (image : List ℕ) (at : ℕ) (bs : List ℕ) → length (splice image at bs) ≡ length image
length-splice image at [] = refl
length-splice image at (b ∷ bs) = length-splice (set image at b) (at + 1) bs ∙ length-set image at b

-- bytes before and after the piece that is written stay
pub splice_before : (image : List ℕ) (at : ℕ) (bs : List ℕ) (k : ℕ) → k < at → get_or (splice image at bs) k 0 ≡ get_or image k 0
splice_before image at [] k before = refl
splice_before image at (b ∷ bs) k before =
    splice_before (set image at b) (at + 1) bs k (omega arith) ∙ get_or-set_other image at k b 0 (omega arith)

pub splice_behind : (image : List ℕ) (at : ℕ) (bs : List ℕ) (k : ℕ) → at + length bs ≤ k → get_or (splice image at bs) k 0 ≡ get_or image k 0
splice_behind image at [] k after = refl
splice_behind image at (b ∷ bs) k after =
    splice_behind (set image at b) (at + 1) bs k (omega arith) ∙ get_or-set_other image at k b 0 (omega arith)

-- the piece that was written is read
pub piece-splice : (image : List ℕ) (at : ℕ) (bs : List ℕ) → at + length bs ≤ length image → piece (splice image at bs) at (length bs) ≡ bs
piece-splice image at [] within = refl
piece-splice image at (b ∷ bs) within =
    let len = length-set image at b in
    let first = splice_before (set image at b) (at + 1) bs at (omega arith) ∙ get_or-set_same image at b 0 (omega arith) in
    let rest = piece-splice (set image at b) (at + 1) bs (omega arith) in
    grind (arith, first, rest)

-- a piece is as it was where its bytes are
pub piece-same : (old new : List ℕ) (at n : ℕ) → ((k : ℕ) → at ≤ k → k < at + n → get_or new k 0 ≡ get_or old k 0) → piece new at n ≡ piece old at n
piece-same old new at zero same = refl
piece-same old new at (suc n) same =
    let first = same at (omega arith) (omega arith) in
    let rest = piece-same old new (at + 1) n (λ k above below. same k (omega arith) (omega arith)) in
    grind (arith, first, rest)

-- ---- bits

-- bit j of the byte whose bits are set but for bit i
clear_mask : (i j : ℕ) → i < 8 → j < 8 → bit_at (bit_not w8 (2 ^ i)) j ≡ 1 - bit_at (2 ^ i) j
clear_mask i j within inside = bit_at_not w8 (2 ^ i) j (pow_below i 8 within) inside

pub with_bit_same : (byte i b : ℕ) → i < 8 → b < 2 → bit_at (with_bit byte i b) i ≡ b
with_bit_same byte i zero within bit =
    omega (arith, bit_at_and byte (bit_not w8 (2 ^ i)) i, clear_mask i i within within, bit_at-pow_same i)
with_bit_same byte i (suc zero) within bit =
    omega (arith, bit_at_or byte (2 ^ i) i, bit_at-pow_same i, bit_at-lt byte i)
with_bit_same byte i (suc (suc b)) within bit = absurd (omega arith)

pub with_bit_other : (byte i b j : ℕ) → i < 8 → j < 8 → j ≢ i → bit_at (with_bit byte i b) j ≡ bit_at byte j
with_bit_other byte i b j within inside other =
    cond_both (b == 1) (bit_or byte (2 ^ i)) (bit_and byte (bit_not w8 (2 ^ i))) (λ x. bit_at x j ≡ bit_at byte j)
    (λ _. omega (arith, bit_at_or byte (2 ^ i) j, bit_at-pow_other i j other, bit_at-lt byte j))
    (λ _. omega (arith, bit_at_and byte (bit_not w8 (2 ^ i)) j, clear_mask i j within inside, bit_at-pow_other i j other, bit_at-lt byte j))

-- ---- reading what was written

write_of_length : (k : Kind) (image : List ℕ) (at : ℕ) (v : ℤ) → length (write_of k image at v) ≡ length image
write_of_length KBool image at v = length-set image (at / 8) _
write_of_length Sint image at v = length-splice image (at / 8) (signed_bytes w8 v)
write_of_length Int image at v = length-splice image (at / 8) (signed_bytes w16 v)
write_of_length Dint image at v = length-splice image (at / 8) (signed_bytes w32 v)

pub write_keeps_length : WriteKeepsLength
write_keeps_length image p v = write_of_length p.kind image p.at v

read_back : (k : Kind) (image : List ℕ) (at : ℕ) (v : ℤ) → InBoundsAt k at (length image) → number_of k (write_of k image at v) at ≡ store_low k v
read_back KBool image at v lies =
    let byte = get_or image (at / 8) 0 in
    ap (λ x. pos (bit_at x (at % 8))) (get_or-set_same image (at / 8) (with_bit byte (at % 8) (low_bits 1 v)) 0 (omega (arith, lies.1)))
    ∙ ap pos (with_bit_same byte (at % 8) (low_bits 1 v) (omega arith) (low_bits_below 2 v (lit< tt)))
read_back Sint image at v lies =
    ap (signed_of w8) (piece-splice image (at / 8) (signed_bytes w8 v) (omega (arith, lies.0, lies.1))) ∙ signed_of-bytes_8 v
read_back Int image at v lies =
    ap (signed_of w16) (piece-splice image (at / 8) (signed_bytes w16 v) (omega (arith, lies.0, lies.1))) ∙ signed_of-bytes_16 v
read_back Dint image at v lies =
    ap (signed_of w32) (piece-splice image (at / 8) (signed_bytes w32 v) (omega (arith, lies.0, lies.1))) ∙ signed_of-bytes_32 v

pub reads_what_was_written : ReadsWhatWasWritten
reads_what_was_written image p v lies = read_back p.kind image p.at v lies

-- ---- reading elsewhere

-- the bits from `at` on, this many, have none in common with byte b
abbrev pub Misses : ℕ → ℕ → ℕ → Type 0
Misses at bits b = (8 * b + 8 ≤ at) ⊎ (at + bits ≤ 8 * b)

-- a byte of which no bit is written stays
byte_stays : (k : Kind) (image : List ℕ) (at : ℕ) (v : ℤ) (b : ℕ) → IsByteAligned k at → Misses at (bits_of k) b → get_or (write_of k image at v) b 0 ≡ get_or image b 0
byte_stays KBool image at v b well (inl before) = get_or-set_other image (at / 8) b _ 0 (omega arith)
byte_stays KBool image at v b well (inr after) = get_or-set_other image (at / 8) b _ 0 (omega arith)
byte_stays Sint image at v b well (inl before) = splice_before image (at / 8) (signed_bytes w8 v) b (omega arith)
byte_stays Sint image at v b well (inr after) = splice_behind image (at / 8) (signed_bytes w8 v) b (omega arith)
byte_stays Int image at v b well (inl before) = splice_before image (at / 8) (signed_bytes w16 v) b (omega arith)
byte_stays Int image at v b well (inr after) = splice_behind image (at / 8) (signed_bytes w16 v) b (omega arith)
byte_stays Dint image at v b well (inl before) = splice_before image (at / 8) (signed_bytes w32 v) b (omega arith)
byte_stays Dint image at v b well (inr after) = splice_behind image (at / 8) (signed_bytes w32 v) b (omega arith)

-- so does a piece of such bytes
piece_stays : (k : Kind) (image : List ℕ) (at : ℕ) (v : ℤ) (from n : ℕ) → IsByteAligned k at → (at + bits_of k ≤ 8 * from) ⊎ (8 * (from + n) ≤ at) → piece (write_of k image at v) from n ≡ piece image from n
piece_stays k image at v from n well (inl after) =
    piece-same image (write_of k image at v) from n (λ b above below. byte_stays k image at v b well (inr (omega arith)))
piece_stays k image at v from n well (inr before) =
    piece-same image (write_of k image at v) from n (λ b above below. byte_stays k image at v b well (inl (omega arith)))

-- a bit in a byte of which no bit is written
bit_stays : (k : Kind) (image : List ℕ) (at : ℕ) (v : ℤ) (to : ℕ) → IsByteAligned k at → Misses at (bits_of k) (to / 8) → number_of KBool (write_of k image at v) to ≡ number_of KBool image to
bit_stays k image at v to well misses = ap (λ x. pos (bit_at x (to % 8))) (byte_stays k image at v (to / 8) well misses)

-- another bit, of the same byte or not
other_bit : (image : List ℕ) (at : ℕ) (v : ℤ) (to : ℕ) → at < 8 * length image → to ≢ at → number_of KBool (write_of KBool image at v) to ≡ number_of KBool image to
other_bit image at v to within other = elim (cases_eq (to / 8) (at / 8)) [
  | inl same ↦
      let byte = get_or image (at / 8) 0 in
      let bit = low_bits 1 v in
      rw same (
      ap (λ x. pos (bit_at x (to % 8))) (get_or-set_same image (at / 8) (with_bit byte (at % 8) bit) 0 (omega arith))
      ∙ ap pos (with_bit_other byte (at % 8) bit (to % 8) (omega arith) (omega arith) (λ e. other (omega arith))))
  | inr apart ↦ ap (λ x. pos (bit_at x (to % 8))) (get_or-set_other image (at / 8) (to / 8) _ 0 apart)
]

stays : (k j : Kind) (image : List ℕ) (at to : ℕ) (v : ℤ) → InBoundsAt k at (length image) → IsByteAligned j to → (at + bits_of k ≤ to) ⊎ (to + bits_of j ≤ at) → number_of j (write_of k image at v) to ≡ number_of j image to
stays KBool KBool image at to v lies well apart = other_bit image at v to (omega (arith, lies.1)) (λ e. elim apart [ inl p ↦ omega arith | inr p ↦ omega arith ])
stays Sint KBool image at to v lies well apart =
    bit_stays Sint image at v to lies.0 (elim apart [ inl p ↦ inr (omega (arith, lies.0)) | inr p ↦ inl (omega (arith, lies.0)) ])
stays Int KBool image at to v lies well apart =
    bit_stays Int image at v to lies.0 (elim apart [ inl p ↦ inr (omega (arith, lies.0)) | inr p ↦ inl (omega (arith, lies.0)) ])
stays Dint KBool image at to v lies well apart =
    bit_stays Dint image at v to lies.0 (elim apart [ inl p ↦ inr (omega (arith, lies.0)) | inr p ↦ inl (omega (arith, lies.0)) ])
stays k Sint image at to v lies well apart =
    ap (signed_of w8) (piece_stays k image at v (to / 8) 1 lies.0 (elim apart [ inl p ↦ inl (omega arith) | inr p ↦ inr (omega arith) ]))
stays k Int image at to v lies well apart =
    ap (signed_of w16) (piece_stays k image at v (to / 8) 2 lies.0 (elim apart [ inl p ↦ inl (omega arith) | inr p ↦ inr (omega arith) ]))
stays k Dint image at to v lies well apart =
    ap (signed_of w32) (piece_stays k image at v (to / 8) 4 lies.0 (elim apart [ inl p ↦ inl (omega arith) | inr p ↦ inr (omega arith) ]))

pub other_places_stay : OtherPlacesStay
other_places_stay image p q v lies inside apart = stays p.kind q.kind image p.at q.at v lies inside.0 apart

-- ---- pieces

pub length-piece : (image : List ℕ) (at n : ℕ) → length (piece image at n) ≡ n
length-piece image at zero = refl
length-piece image at (suc n) = ap suc (length-piece image (at + 1) n)
