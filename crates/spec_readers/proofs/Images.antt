-- Writes of the same keep images the same but at some bytes, and what stands beside these bytes is read the same.
use Rattle.std.proofs.Common.{◌≡◌, ℕ, ◌+◌, ◌/◌, ◌%◌, ◌<◌, ◌≤◌, ◌⊎◌, inl, inr, List, [], ◌∷◌, length, ℤ, pos, get_or, refl, sym, ◌∙◌, ap, subst, arith, length-set, get_or-set_same, get_or-set_other}
use Rattle.std.specs.Prelude.{slice_index, slice_set}
use Rattle.std.specs.Int.{w8, w16, w32, bit_at}
use Rattle.std.proofs.lemmas.Bool.{cases_eq, cases_lt}
use Rattle.std.proofs.lemmas.List.{get_or_past}
use Rattle.lgx_num.specs.declared.number.Kind.{Kind}
use Rattle.lgx_num.specs.declared.number.Kind.TheVariants.{Bool as KBool, Sint, Int, Dint}
use Rattle.lgx_num.specs.declared.place.Place.{Place}
use Rattle.lgx_num.specs.Number.{low_bits, signed_bytes, signed_of, bytes_in}
use Rattle.lgx_num.specs.Image.{piece, splice, with_bit, number_of, write_of, number}
use Rattle.lgx_num.proofs.Images.{piece-same}
use Rattle.spec_beside.specs.Misses.{IsBeside}
use Rattle.spec_readers.specs.Reads.{AreSameBut, PlaceSpares}

module _ (T : ℕ → Type 0) where
  -- the same bytes are set, but where they don't count
  pub set_same : (x y : List ℕ) (at u v : ℕ) → AreSameBut T x y → ((T at → ⊥) → u ≡ v) → AreSameBut T (slice_set x at u) (slice_set y at v)
  set_same x y at u v h same = record { lengths = length-set x at u ∙ (h.lengths ∙ sym (length-set y at v)); bytes = λ b other. go b other (cases_eq at b) (cases_lt at (length x)) }
    where
      go : (b : ℕ) → (T b → ⊥) → (at ≡ b) ⊎ (at ≡ b → ⊥) → (at < length x) ⊎ (length x ≤ at) → slice_index (slice_set x at u) b ≡ slice_index (slice_set y at v) b
      go b other (inl e) (inl l) =
          subst (λ (i : ℕ). get_or (slice_set x at u) i 0 ≡ get_or (slice_set y at v) i 0) e
          (get_or-set_same x at u 0 l ∙ (same (subst (λ (i : ℕ). T i → ⊥) (sym e) other) ∙ sym (get_or-set_same y at v 0 (let k = h.lengths in omega arith))))
      go b other (inl e) (inr g) =
          get_or_past (slice_set x at u) b 0 (let n = length-set x at u in omega arith)
          ∙ sym (get_or_past (slice_set y at v) b 0 (let n = length-set y at v in let k = h.lengths in omega arith))
      go b other (inr ne) l = get_or-set_other x at b u 0 (λ e. ne (sym e)) ∙ (h.bytes b other ∙ sym (get_or-set_other y at b v 0 (λ e. ne (sym e))))

  pub splice_same : (x y : List ℕ) (at : ℕ) (bs : List ℕ) → AreSameBut T x y → AreSameBut T (splice x at bs) (splice y at bs)
  splice_same x y at [] h = h
  splice_same x y at (b ∷ bs) h = splice_same (slice_set x at b) (slice_set y at b) (at + 1) bs (set_same x y at b b h (λ other. refl))

  pub write_same : (k : Kind) (x y : List ℕ) (at : ℕ) (v : ℤ) → AreSameBut T x y → AreSameBut T (write_of k x at v) (write_of k y at v)
  write_same KBool x y at v h = set_same x y (at / 8) _ _ h (λ other. ap (λ (byte : ℕ). with_bit byte (at % 8) (low_bits 1 v)) (h.bytes (at / 8) other))
  write_same Sint x y at v h = splice_same x y (at / 8) (signed_bytes w8 v) h
  write_same Int x y at v h = splice_same x y (at / 8) (signed_bytes w16 v) h
  write_same Dint x y at v h = splice_same x y (at / 8) (signed_bytes w32 v) h

  -- ---- what is read

  -- the bytes from one up to before another are none of them
  abbrev pub Spares : ℕ → ℕ → Type 0
  Spares at stop = (b : ℕ) → T b → IsBeside at stop b

  spared : (at stop : ℕ) → Spares at stop → (b : ℕ) → at ≤ b → b < stop → T b → ⊥
  spared at stop h b above below t = go (h b t)
    where
      go : IsBeside at stop b → ⊥
      go (inl before) = absurd (omega arith)
      go (inr after) = absurd (omega arith)

  pub byte_same : (x y : List ℕ) (at stop b : ℕ) → AreSameBut T x y → Spares at stop → at ≤ b → b < stop → slice_index x b ≡ slice_index y b
  byte_same x y at stop b h s above below = h.bytes b (spared at stop s b above below)

  pub piece_same : (x y : List ℕ) (at stop from n : ℕ) → AreSameBut T x y → Spares at stop → at ≤ from → from + n ≤ stop → piece x from n ≡ piece y from n
  piece_same x y at stop from n h s above below = piece-same y x from n (λ b l m. byte_same x y at stop b h s (omega arith) (omega arith))

  pub number_same : (k : Kind) (x y : List ℕ) (at : ℕ) → AreSameBut T x y → Spares (at / 8) (at / 8 + bytes_in k) → number_of k x at ≡ number_of k y at
  number_same KBool x y at h s = ap (λ (byte : ℕ). pos (bit_at byte (at % 8))) (byte_same x y (at / 8) (at / 8 + 1) (at / 8) h s (omega arith) (omega arith))
  number_same Sint x y at h s = ap (signed_of w8) (piece_same x y (at / 8) (at / 8 + 1) (at / 8) 1 h s (omega arith) (omega arith))
  number_same Int x y at h s = ap (signed_of w16) (piece_same x y (at / 8) (at / 8 + 2) (at / 8) 2 h s (omega arith) (omega arith))
  number_same Dint x y at h s = ap (signed_of w32) (piece_same x y (at / 8) (at / 8 + 4) (at / 8) 4 h s (omega arith) (omega arith))

  pub place_same : (x y : List ℕ) (p : Place) → AreSameBut T x y → PlaceSpares T p → number x p ≡ number y p
  place_same x y p h s = number_same p.kind x y p.at h s
