-- The bytes that a copy has copied so far, if its two ranges share none.
use Rattle.std.proofs.Common.{◌≡◌, ℕ, zero, suc, ◌+◌, ◌-◌, ◌*◌, ◌<◌, ◌≤◌, ◌⊎◌, inl, inr, true, List, length, take, drop, get_or, length-drop, ℤ, Option, None, refl, sym, ◌∙◌, ap, subst, arith}
use Rattle.std.specs.Prelude.{nat_le, slice_range}
use Rattle.std.proofs.lemmas.Bool.{cases_lt, or_cases, leb-true}
use Rattle.std.proofs.lemmas.List.{ext_get_or, get_or-take, get_or-drop, length-take}
use Rattle.std.proofs.lemmas.Slice.Eq.{bytes_eq-Decides}
use Rattle.std.proofs.Math.Nat.{mul-le-mul_left}
use Rattle.lgx_num.specs.Image.{piece, splice}
use Rattle.lgx_num.proofs.Images.{length-splice, splice_before, splice_behind, piece-splice, length-piece}
use Rattle.spec_scan.specs.declared.bound.Copying.{Copying}
use Rattle.spec_scan.specs.Copies.{element_bytes, copy_element}
use Rattle.spec_schedule.specs.Stages.{length_of, is_apart, is_copied}
use Rattle.spec_machine.specs.State.{State}

-- ---- pieces

piece_at : (image : List ℕ) (at n i : ℕ) → i < n → get_or (piece image at n) i 0 ≡ get_or image (at + i) 0
piece_at image at zero i l = absurd (omega arith)
piece_at image at (suc n) zero l = ap (λ k. get_or image k 0) (let e : at ≡ at + 0 = omega arith in e)
piece_at image at (suc n) (suc i) l = piece_at image (at + 1) n i (omega arith) ∙ ap (λ k. get_or image k 0) (let e : at + 1 + i ≡ at + suc i = omega arith in e)

splice_at : (image : List ℕ) (at : ℕ) (bs : List ℕ) (i : ℕ) → at + length bs ≤ length image → i < length bs → get_or (splice image at bs) (at + i) 0 ≡ get_or bs i 0
splice_at image at bs i within l = sym (piece_at (splice image at bs) at (length bs) i l) ∙ ap (λ xs. get_or xs i 0) (piece-splice image at bs within)

-- ---- after k elements

-- the copy c, after k of its elements
pub record IsAtElement (c now : Copying) (k : ℕ) : Type 0 where
  pub source : now.source ≡ c.source + c.size * k
  pub target : now.target ≡ c.target + c.size * k
  pub size : now.size ≡ c.size
  pub left : now.left + k ≡ c.left
  pub plain : now.fill ≡ None

-- the source's bytes are as they were, and the first k elements of the target are theirs
pub record CopiedSoFar (c : Copying) (first image : List ℕ) (k : ℕ) : Type 0 where
  pub source : (i : ℕ) → i < c.size * c.left → get_or image (c.source + i) 0 ≡ get_or first (c.source + i) 0
  pub target : (i : ℕ) → i < c.size * k → get_or image (c.target + i) 0 ≡ get_or first (c.source + i) 0
  pub long : length image ≡ length first

-- the ranges share no byte, and lie in the image
pub record AreApart (c : Copying) (len : ℕ) : Type 0 where
  pub apart : (c.source + length_of c ≤ c.target) ⊎ (c.target + length_of c ≤ c.source)
  pub source : c.source + length_of c ≤ len
  pub target : c.target + length_of c ≤ len

pub apart_of : (c : Copying) → is_apart c ≡ true → (c.source + length_of c ≤ c.target) ⊎ (c.target + length_of c ≤ c.source)
apart_of c h =
    elim (or_cases (nat_le (c.source + length_of c) c.target) (nat_le (c.target + length_of c) c.source) h) [
      | inl l ↦ inl (leb-true (c.source + length_of c) c.target l)
      | inr l ↦ inr (leb-true (c.target + length_of c) c.source l)
    ]

pub begins_copied : (c : Copying) (image : List ℕ) → CopiedSoFar c image image 0
begins_copied c image = record { source = λ i l. refl; target = λ i l. absurd (omega arith); long = refl }

module _ (c now : Copying) (k : ℕ) (first image : List ℕ) (at : IsAtElement c now k) (some : 0 < now.left) (apart : AreApart c (length first)) (h : CopiedSoFar c first image k) where
  abbrev bs : List ℕ
  bs = piece image now.source now.size

  abbrev next : List ℕ
  next = splice image now.target bs

  bs_length : length bs ≡ c.size
  bs_length = length-piece image now.source now.size ∙ at.size

  -- the element lies in the target
  ends : c.size * (k + 1) ≤ c.size * c.left
  ends = mul-le-mul_left c.size (let l = at.left in omega arith)

  more : c.size * (k + 1) ≡ c.size * k + c.size
  more = omega arith

  within : now.target + length bs ≤ length image
  within =
      (let a = at.target in
      let b = bs_length in
      let e = ends in
      let m = more in
      let t = apart.target in
      let l = h.long in
      omega arith)

  source_next : (i : ℕ) → i < c.size * c.left → get_or next (c.source + i) 0 ≡ get_or first (c.source + i) 0
  source_next i l = go apart.apart ∙ h.source i l
    where
      go : (c.source + length_of c ≤ c.target) ⊎ (c.target + length_of c ≤ c.source) → get_or next (c.source + i) 0 ≡ get_or image (c.source + i) 0
      go (inl a) = splice_before image now.target bs (c.source + i) (let t = at.target in omega arith)
      go (inr a) = splice_behind image now.target bs (c.source + i) (let t = at.target in let b = bs_length in let e = ends in let m = more in omega arith)

  target_next : (i : ℕ) → i < c.size * (k + 1) → get_or next (c.target + i) 0 ≡ get_or first (c.source + i) 0
  target_next i l =
      elim (cases_lt i (c.size * k)) [
        | inl b ↦ splice_before image now.target bs (c.target + i) (let t = at.target in omega arith) ∙ h.target i b
        | inr g ↦
            (let r = i - c.size * k in
            let t = at.target in
            let s = at.source in
            let m = more in
            let z = at.size in
            let inside : r < length bs = (let b = bs_length in omega arith) in
            let here : now.target + r ≡ c.target + i = omega arith in
            let there : now.source + r ≡ c.source + i = omega arith in
            subst (λ j. get_or next j 0 ≡ get_or first (c.source + i) 0) here
            (splice_at image now.target bs r within inside
            ∙ (piece_at image now.source now.size r (omega arith)
            ∙ (ap (λ j. get_or image j 0) there ∙ h.source i (let e = ends in omega arith)))))
      ]

  copied_next : CopiedSoFar c first next (k + 1)
  copied_next = record { source = source_next; target = target_next; long = length-splice image now.target bs ∙ h.long }

  -- one element more
  pub element_copied : CopiedSoFar c first (copy_element now image) (k + 1)
  element_copied = subst (λ (fill : Option ℤ). CopiedSoFar c first (splice image now.target (element_bytes fill now image)) (k + 1)) (sym at.plain) copied_next

-- ---- all of them

range_at : (xs : List ℕ) (at n i : ℕ) → i < n → get_or (slice_range xs at (at + n)) i 0 ≡ get_or xs (at + i) 0
range_at xs at n i l =
    let e : at + n - at ≡ n = omega arith in
    ap (λ (m : ℕ). get_or (take m (drop at xs)) i 0) e ∙ (get_or-take n (drop at xs) i 0 l ∙ get_or-drop at xs i 0)

range_length : (xs : List ℕ) (at n : ℕ) → at + n ≤ length xs → length (slice_range xs at (at + n)) ≡ n
range_length xs at n l = omega (arith, length-take (at + n - at) (drop at xs), length-drop at xs)

pub all_copied : (c : Copying) (started ended : State) → AreApart c (length started.image) → CopiedSoFar c started.image ended.image c.left → is_copied c started ended ≡ true
all_copied c started ended apart h =
    let n = length_of c in
    let s = range_length started.image c.source n apart.source in
    let t = range_length ended.image c.target n (let a = apart.target in let l = h.long in omega arith) in
    (bytes_eq-Decides _ _).1
    (ext_get_or 0 (slice_range ended.image c.target (c.target + n)) (slice_range started.image c.source (c.source + n)) (t ∙ sym s)
    (λ i l. (let b : i < n = omega arith in range_at ended.image c.target n i b ∙ (h.target i b ∙ sym (range_at started.image c.source n i b)))))
