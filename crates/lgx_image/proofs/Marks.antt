-- Grains, words and marks.
use Rattle.std.proofs.Common.{◌≡◌, ℕ, zero, suc, ◌+◌, ◌/◌, ◌%◌, ◌<◌, ◌≤◌, inl, inr, Bool, true, false, List, length, set, refl, sym, ap, ◌∙◌, arith, length-set, get_or-set_same, get_or-set_other}
use Rattle.std.proofs.lemmas.Bool.{cases_eq, cases_lt, false≢true}
use Rattle.std.proofs.lemmas.List.{get_or_past}
use Rattle.lgx_num.specs.declared.number.Kind.{Kind}
use Rattle.lgx_num.specs.declared.number.Kind.TheVariants.{Bool as KBool, Sint, Int, Dint}
use Rattle.lgx_image.specs.declared.grain.TheConstants.{GRAIN}
use Rattle.lgx_image.specs.declared.hits.TheConstants.{WORD_BYTES}
use Rattle.lgx_num.specs.Number.{bytes_in}
use Rattle.lgx_image.specs.Grains.{grain_of, grains_in, word_of, is_marked, mark_each, mark_range, watch_range}
use Rattle.lgx_image.specs.Laws.{PieceIsMarked, OtherMarksStay, AlignedPlaceInOneGrain}

-- ---- grains

-- a byte that is there has a grain that is there
pub grain_of-below : (byte n : ℕ) → byte < n → grain_of byte < grains_in n
unfolding grains_in grain_of
grain_of-below byte zero below = absurd (omega arith)
grain_of-below byte (suc n) below = omega arith

pub grain_of-is : (byte : ℕ) → grain_of byte ≡ byte / GRAIN
unfolding grain_of
grain_of-is byte = refl

-- bytes of a piece whose size divides the size of a grain
pub same_grain : (k : Kind) (at byte : ℕ) → at % bytes_in k ≡ 0 → at ≤ byte → byte < at + bytes_in k → grain_of byte ≡ grain_of at
unfolding grain_of
same_grain KBool at byte aligned above below = omega arith
same_grain Sint at byte aligned above below = omega arith
same_grain Int at byte aligned above below = omega arith
same_grain Dint at byte aligned above below = omega arith

pub aligned_place_in_one_grain : AlignedPlaceInOneGrain
aligned_place_in_one_grain p byte aligned above below = same_grain p.kind (p.at / 8) byte aligned above below

-- a word that holds a byte
pub word_of-is : (byte : ℕ) → word_of byte ≡ byte / WORD_BYTES
unfolding word_of
word_of-is byte = refl

-- ---- marks

-- a mark that is set stays set
pub set_stays : (marks : List Bool) (h g : ℕ) → is_marked marks g ≡ true → is_marked (set marks h true) g ≡ true
set_stays marks h g is = elim (cases_eq g h) [
  | inl same ↦ elim (cases_lt h (length marks)) [
    | inl within ↦ rw same (get_or-set_same marks h true false within)
    | inr past ↦ absurd (false≢true (sym (get_or_past marks g false (omega arith)) ∙ is))
  ]
  | inr other ↦ get_or-set_other marks h g true false other ∙ is
]

-- of what holds bytes of a piece
module _ (holder : ℕ → ℕ) where
  length-mark_each : (marks : List Bool) (at n : ℕ) → length (mark_each holder marks at n) ≡ length marks
  length-mark_each marks at zero = refl
  length-mark_each marks at (suc n) = length-mark_each (set marks (holder at) true) (at + 1) n ∙ length-set marks (holder at) true

  mark_each-stays : (marks : List Bool) (at n g : ℕ) → is_marked marks g ≡ true → is_marked (mark_each holder marks at n) g ≡ true
  mark_each-stays marks at zero g is = is
  mark_each-stays marks at (suc n) g is = mark_each-stays (set marks (holder at) true) (at + 1) n g (set_stays marks (holder at) g is)

  holder_is_marked : (marks : List Bool) (at n g : ℕ) → g < length marks → (byte : ℕ) × (at ≤ byte) × (byte < at + n) × (holder byte ≡ g) → is_marked (mark_each holder marks at n) g ≡ true
  holder_is_marked marks at zero g within holds = absurd (omega (arith, holds.1, holds.2))
  holder_is_marked marks at (suc n) g within holds = elim (cases_eq holds.0 at) [
    | inl first ↦
        let here : holder at ≡ g = ap holder (sym first) ∙ holds.3 in
        mark_each-stays (set marks (holder at) true) (at + 1) n g (rw here (get_or-set_same marks g true false within))
    | inr later ↦
        holder_is_marked (set marks (holder at) true) (at + 1) n g
        (omega (arith, length-set marks (holder at) true))
        (holds.0, omega (arith, holds.1, later), omega (arith, holds.2), holds.3)
  ]

  others_stay : (marks : List Bool) (at n g : ℕ) → ((byte : ℕ) × (at ≤ byte) × (byte < at + n) × (holder byte ≡ g) → ⊥) → is_marked (mark_each holder marks at n) g ≡ is_marked marks g
  others_stay marks at zero g none = refl
  others_stay marks at (suc n) g none =
      others_stay (set marks (holder at) true) (at + 1) n g (λ h. none (h.0, omega (arith, h.1), omega (arith, h.2), h.3))
      ∙ get_or-set_other marks (holder at) g true false (λ e. none (at, omega arith, omega arith, sym e))

  -- one byte more
  mark_each-more : (marks : List Bool) (at n : ℕ) → mark_each holder marks at (suc n) ≡ set (mark_each holder marks at n) (holder (at + n)) true
  mark_each-more marks at zero = let here : at ≡ at + 0 = omega arith in ap (λ b. set marks (holder b) true) here
  mark_each-more marks at (suc n) =
      let next : at + 1 + n ≡ at + suc n = omega arith in
      mark_each-more (set marks (holder at) true) (at + 1) n ∙ ap (λ b. set (mark_each holder (set marks (holder at) true) (at + 1) n) (holder b) true) next

pub length-mark_range : (marks : List Bool) (at n : ℕ) → length (mark_range marks at n) ≡ length marks
length-mark_range marks at n = length-mark_each grain_of marks at n

pub mark_range-stays : (marks : List Bool) (at n g : ℕ) → is_marked marks g ≡ true → is_marked (mark_range marks at n) g ≡ true
mark_range-stays marks at n g is = mark_each-stays grain_of marks at n g is

pub watch_range-stays : (watched : List Bool) (at n word : ℕ) → is_marked watched word ≡ true → is_marked (watch_range watched at n) word ≡ true
watch_range-stays watched at n word is = mark_each-stays word_of watched at n word is

pub watch_range-more : (watched : List Bool) (at n m b : ℕ) → m ≡ suc n → b ≡ at + n → watch_range watched at m ≡ set (watch_range watched at n) (word_of b) true
watch_range-more watched at n m b one here = rw (one, here) (mark_each-more word_of watched at n)

pub piece_is_marked : PieceIsMarked
piece_is_marked marks at size grain within holds = holder_is_marked grain_of marks at size grain within holds

pub other_marks_stay : OtherMarksStay
other_marks_stay marks at size grain none = others_stay grain_of marks at size grain none
