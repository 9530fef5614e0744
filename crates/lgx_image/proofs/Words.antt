-- Words that keep marks as bits.
use Rattle.std.proofs.Common.{◌≡◌, ◌≢◌, ℕ, ◌+◌, ◌-◌, ◌*◌, ◌/◌, ◌%◌, ◌^◌, ◌<◌, ◌≤◌, ◌⊎◌, inl, inr, zero, suc, Bool, true, false, List, length, get_or, set, replicate, eqb, min, max, bit_or, refl, sym, ap, subst, ◌∙◌, arith, Some, None, get_or-set_same, get_or-set_other}
use Rattle.std.specs.Int.{w64, bit_at}
use Rattle.std.proofs.lemmas.Bool.{cases_eq, cases_lt}
use Rattle.std.proofs.lemmas.Nat.{shr-shr}
use Rattle.std.proofs.lemmas.Nat.Bits.{bit_at-zero, bit_at_above, bit_at_set_same, bit_at_set_other}
use Rattle.std.proofs.lemmas.List.{get_or_past, ext_get_or, get_or-replicate, length-replicate}
use Rattle.std.proofs.lemmas.List.FromFn.{length-map-range_with_len, get_or-map-range_with_len}
use Rattle.lgx_image.specs.declared.grain.TheConstants.{GRAIN}
use Rattle.lgx_image.specs.Grains.{ImageView, grain_of, grains_in, is_marked, mark_range, NextMarked}
use Rattle.lgx_image.specs.Words.{bit_of_words, marks_of, flags_of, NextBit, LeastBit}
use Rattle.lgx_image.specs.Laws.{HoldsByte}
use Rattle.lgx_image.proofs.Marks.{grain_of-is, length-mark_range, piece_is_marked, other_marks_stay}

-- ---- marks of words

pub length-marks_of : (words : List ℕ) (n : ℕ) → length (marks_of words n) ≡ n
unfolding marks_of
length-marks_of words n = length-map-range_with_len (bit_of_words words) 0 n

pub marks_of-at : (words : List ℕ) (n g : ℕ) → g < n → is_marked (marks_of words n) g ≡ bit_of_words words g
unfolding marks_of
marks_of-at words n g within = get_or-map-range_with_len (bit_of_words words) 0 n g g false within (omega arith)

pub marks_of-past : (words : List ℕ) (n g : ℕ) → n ≤ g → is_marked (marks_of words n) g ≡ false
marks_of-past words n g past = get_or_past (marks_of words n) g false (omega (arith, length-marks_of words n))

-- no bit of words that are 0 is set
pub no_bit : (words : List ℕ) (g : ℕ) → get_or words (g / 64) 0 ≡ 0 → bit_of_words words g ≡ false
no_bit words g none = ap (λ x. eqb (bit_at x (g % 64)) 1) none ∙ ap (λ x. eqb x 1) (bit_at-zero (g % 64))

pub bit_past : (words : List ℕ) (g : ℕ) → length words ≤ g / 64 → bit_of_words words g ≡ false
bit_past words g past = no_bit words g (get_or_past words (g / 64) 0 past)

-- ---- lists of truth values

pub length-flags_of : (flags : List Bool) (n : ℕ) → length (flags_of flags n) ≡ n
unfolding flags_of
length-flags_of flags n = length-map-range_with_len (is_marked flags) 0 n

pub flags_of-at : (flags : List Bool) (n g : ℕ) → g < n → is_marked (flags_of flags n) g ≡ is_marked flags g
unfolding flags_of
flags_of-at flags n g within = get_or-map-range_with_len (is_marked flags) 0 n g g false within (omega arith)

pub flags_of-past : (flags : List Bool) (n g : ℕ) → n ≤ g → is_marked (flags_of flags n) g ≡ false
flags_of-past flags n g past = get_or_past (flags_of flags n) g false (omega (arith, length-flags_of flags n))

pub flags_of-none : (n grains : ℕ) → flags_of (replicate n false) grains ≡ replicate grains false
flags_of-none n grains =
    ext_get_or false (flags_of (replicate n false) grains) (replicate grains false)
    (length-flags_of (replicate n false) grains ∙ sym (length-replicate grains false))
    (λ g below.
    let within : g < grains = omega (arith, length-flags_of (replicate n false) grains) in
    flags_of-at (replicate n false) grains g within ∙ off g ∙ sym (get_or-replicate grains g false false within))
  where
    off : (g : ℕ) → is_marked (replicate n false) g ≡ false
    off g = elim (cases_lt g n) [
      | inl within ↦ get_or-replicate n g false false within
      | inr past ↦ get_or_past (replicate n false) g false (omega (arith, length-replicate n false))
    ]

-- ---- one bit

pub bit_set : (words : List ℕ) (g : ℕ) → g / 64 < length words → bit_of_words (set words (g / 64) (bit_or (get_or words (g / 64) 0) (1 * 2 ^ (g % 64) % 2 ^ 64))) g ≡ true
bit_set words g within =
    ap (λ x. eqb (bit_at x (g % 64)) 1) (get_or-set_same words (g / 64) (bit_or (get_or words (g / 64) 0) (1 * 2 ^ (g % 64) % 2 ^ 64)) 0 within)
    ∙ ap (λ x. eqb x 1) (bit_at_set_same w64 (get_or words (g / 64) 0) (g % 64) (omega arith))

pub bit_set_other : (words : List ℕ) (g k : ℕ) → g / 64 < length words → k ≢ g → bit_of_words (set words (g / 64) (bit_or (get_or words (g / 64) 0) (1 * 2 ^ (g % 64) % 2 ^ 64))) k ≡ bit_of_words words k
bit_set_other words g k within other = elim (cases_eq (k / 64) (g / 64)) [
  | inl same ↦
      rw same (
      ap (λ x. eqb (bit_at x (k % 64)) 1) (get_or-set_same words (g / 64) (bit_or (get_or words (g / 64) 0) (1 * 2 ^ (g % 64) % 2 ^ 64)) 0 within)
      ∙ ap (λ x. eqb x 1) (bit_at_set_other w64 (get_or words (g / 64) 0) (g % 64) (omega arith) (k % 64) (λ e. other (omega arith))))
  | inr apart ↦ ap (λ x. eqb (bit_at x (k % 64)) 1) (get_or-set_other words (g / 64) (k / 64) _ 0 apart)
]

-- ---- the marks of a piece

-- a grain from the first to the last of a piece holds a byte of it
holds_byte : (at size g : ℕ) → 0 < size → at / GRAIN ≤ g → g ≤ (at + size - 1) / GRAIN → HoldsByte g at size
holds_byte at size g some above below = (max at (GRAIN * g), omega arith, omega arith, grain_of-is (max at (GRAIN * g)) ∙ omega arith)

pub flags_of-piece : (old new : List Bool) (at size n : ℕ) → 0 < size → ((g : ℕ) → grain_of at ≤ g → g ≤ grain_of (at + size - 1) → is_marked new g ≡ true) → ((g : ℕ) → (g < grain_of at) ⊎ (grain_of (at + size - 1) < g) → is_marked new g ≡ is_marked old g) → flags_of new n ≡ mark_range (flags_of old n) at size
flags_of-piece old new at size n some covered others =
    ext_get_or false (flags_of new n) (mark_range (flags_of old n) at size)
    (length-flags_of new n ∙ sym (length-mark_range (flags_of old n) at size ∙ length-flags_of old n))
    (λ g below.
    let within : g < n = omega (arith, length-flags_of new n) in
    flags_of-at new n g within ∙ each g within)
  where
    outside : (g : ℕ) → g < n → (g < grain_of at) ⊎ (grain_of (at + size - 1) < g) → (HoldsByte g at size → ⊥) → is_marked new g ≡ is_marked (mark_range (flags_of old n) at size) g
    outside g within apart none = others g apart ∙ sym (other_marks_stay (flags_of old n) at size g none ∙ flags_of-at old n g within)

    each : (g : ℕ) → g < n → is_marked new g ≡ is_marked (mark_range (flags_of old n) at size) g
    each g within =
        let first = grain_of-is at in
        let last = grain_of-is (at + size - 1) in
        elim (cases_lt g (grain_of at)) [
          | inl before ↦ outside g within (inl before) (λ h. absurd (omega (arith, h.1, h.2, h.3, grain_of-is h.0)))
          | inr above ↦ elim (cases_lt (grain_of (at + size - 1)) g) [
            | inl after ↦ outside g within (inr after) (λ h. absurd (omega (arith, h.1, h.2, h.3, grain_of-is h.0)))
            | inr below ↦
                covered g above below
                ∙ sym (piece_is_marked (flags_of old n) at size g (omega (arith, length-flags_of old n)) (holds_byte at size g some (omega arith) (omega arith)))
          ]
        ]

-- the first grain is marked, and then those after it
pub flags_of-first : (old one new : List Bool) (at size n : ℕ) → 0 < size
    → is_marked one (grain_of at) ≡ true → ((g : ℕ) → g ≢ grain_of at → is_marked one g ≡ is_marked old g)
    → ((g : ℕ) → grain_of at + 1 ≤ g → g ≤ grain_of (at + size - 1) → is_marked new g ≡ true) → ((g : ℕ) → (g < grain_of at + 1) ⊎ (grain_of (at + size - 1) < g) → is_marked new g ≡ is_marked one g)
    → flags_of new n ≡ mark_range (flags_of old n) at size
flags_of-first old one new at size n some first others later others' = flags_of-piece old new at size n some covered beside
  where
    order : grain_of at ≤ grain_of (at + size - 1)
    order = omega (arith, grain_of-is at, grain_of-is (at + size - 1), some)

    covered : (g : ℕ) → grain_of at ≤ g → g ≤ grain_of (at + size - 1) → is_marked new g ≡ true
    covered g above below = elim (cases_eq g (grain_of at)) [
      | inl same ↦ others' g (inl (omega arith)) ∙ ap (is_marked one) same ∙ first
      | inr apart ↦ later g (omega arith) below
    ]

    beside : (g : ℕ) → (g < grain_of at) ⊎ (grain_of (at + size - 1) < g) → is_marked new g ≡ is_marked old g
    beside g (inl before) = others' g (inl (omega arith)) ∙ others g (omega arith)
    beside g (inr after) = others' g (inr after) ∙ others g (omega (arith, order))

-- ---- the next mark

-- bit i of a word from bit s on
shr_bit : (w s i : ℕ) → bit_at (w / 2 ^ s) i ≡ bit_at w (s + i)
shr_bit w s i = ap (λ x. x % 2) (shr-shr w s i)

-- a bit that is set is one of the 64
set_bit_within : (w i : ℕ) → w < 2 ^ 64 → bit_at w i ≡ 1 → i < 64
set_bit_within w i small is = elim (cases_lt i 64) [
  | inl within ↦ within
  | inr above ↦ absurd (omega (arith, bit_at_above w 64 i small above))
]

-- bit i of word k
bit_of_word : (words : List ℕ) (k i g : ℕ) → g / 64 ≡ k → g % 64 ≡ i → bit_of_words words g ≡ eqb (bit_at (get_or words k 0) i) 1
bit_of_word words k i g word bit = rw (word, bit) refl

-- the rest of from's word has a bit, or none
pub first_word_some : (words : List ℕ) (from bit : ℕ) → get_or words (from / 64) 0 < 2 ^ 64 → LeastBit (get_or words (from / 64) 0 / 2 ^ (from % 64)) (Some bit) → NextBit words from (Some (from + bit))
first_word_some words from bit small least =
    let w = get_or words (from / 64) 0 in
    let is : bit_at w (from % 64 + bit) ≡ 1 = sym (shr_bit w (from % 64) bit) ∙ least.1 in
    let within = set_bit_within w (from % 64 + bit) small is in (
      omega arith,
      bit_of_word words (from / 64) (from % 64 + bit) (from + bit) (omega arith) (omega arith) ∙ ap (λ x. eqb x 1) is,
      λ k above below.
          bit_of_word words (from / 64) (from % 64 + (k - from)) k (omega arith) (omega arith)
          ∙ ap (λ x. eqb x 1) (sym (shr_bit w (from % 64) (k - from)) ∙ least.2 (k - from) (omega arith)),
    )

pub first_word_none : (words : List ℕ) (from : ℕ) → LeastBit (get_or words (from / 64) 0 / 2 ^ (from % 64)) None → (k : ℕ) → from ≤ k → k < 64 * (from / 64 + 1) → bit_of_words words k ≡ false
first_word_none words from none k above below =
    bit_of_word words (from / 64) (from % 64 + (k - from)) k (omega arith) (omega arith)
    ∙ ap (λ x. eqb x 1) (sym (shr_bit (get_or words (from / 64) 0) (from % 64) (k - from)) ∙ none (k - from))

-- a later word has a bit, or none
pub later_word_some : (words : List ℕ) (from at bit : ℕ) → from / 64 < at → ((k : ℕ) → from ≤ k → k < 64 * at → bit_of_words words k ≡ false) → LeastBit (get_or words at 0) (Some bit) → NextBit words from (Some (at * 64 + bit))
later_word_some words from at bit later before least =
    let within : bit < 64 = least.0 in (
      omega arith,
      bit_of_word words at bit (at * 64 + bit) (omega arith) (omega arith) ∙ ap (λ x. eqb x 1) least.1,
      λ k above below. elim (cases_lt k (64 * at)) [
        | inl earlier ↦ before k above earlier
        | inr here ↦ bit_of_word words at (k - 64 * at) k (omega arith) (omega arith) ∙ ap (λ x. eqb x 1) (least.2 (k - 64 * at) (omega arith))
      ],
    )

pub later_word_none : (words : List ℕ) (from at : ℕ) → ((k : ℕ) → from ≤ k → k < 64 * at → bit_of_words words k ≡ false) → LeastBit (get_or words at 0) None → (k : ℕ) → from ≤ k → k < 64 * (at + 1) → bit_of_words words k ≡ false
later_word_none words from at before none k above below = elim (cases_lt k (64 * at)) [
  | inl earlier ↦ before k above earlier
  | inr here ↦ bit_of_word words at (k - 64 * at) k (omega arith) (omega arith) ∙ ap (λ x. eqb x 1) (none (k - 64 * at))
]

-- no word is left
pub no_word_left : (words : List ℕ) (from at : ℕ) → length words ≤ at → ((k : ℕ) → from ≤ k → k < 64 * at → bit_of_words words k ≡ false) → NextBit words from None
no_word_left words from at past before k above = elim (cases_lt k (64 * at)) [
  | inl earlier ↦ before k above earlier
  | inr here ↦ bit_past words k (omega arith)
]

-- the next bit as a mark
pub next_mark : (words : List ℕ) (n from next : ℕ) → next < n → NextBit words from (Some next) → NextMarked (marks_of words n) from (Some next)
next_mark words n from next within is =
    let above : from ≤ next = is.0 in (
      above,
      marks_of-at words n next within ∙ is.1,
      λ k from_on below. marks_of-at words n k (omega arith) ∙ is.2 k from_on below,
    )

pub no_mark : (words : List ℕ) (n from : ℕ) → NextBit words from None → NextMarked (marks_of words n) from None
no_mark words n from none k above = elim (cases_lt k n) [
  | inl within ↦ marks_of-at words n k within ∙ none k above
  | inr past ↦ marks_of-past words n k past
]

-- ---- an image as its callers see it

-- it has a mark for each of its grains
pub grains_of_view : (bytes : List ℕ) (marks : List Bool) (watched hits : List Bool) (image : ImageView) → (record { bytes = bytes; marks = flags_of marks (grains_in (length bytes)); watched = watched; hits = hits }) ≡ image → length image.marks ≡ grains_in (length image.bytes)
grains_of_view bytes marks watched hits image is =
    let same = ap (λ (m : ImageView). length m.marks) is in
    let count = ap (λ (m : ImageView). grains_in (length m.bytes)) is in
    sym same ∙ length-flags_of marks (grains_in (length bytes)) ∙ count

-- its marks are taken
pub cleared_view : (bytes : List ℕ) (old new : List Bool) (watched hits : List Bool) (image : ImageView) → (record { bytes = bytes; marks = flags_of old (grains_in (length bytes)); watched = watched; hits = hits }) ≡ image → ((n : ℕ) → flags_of new n ≡ replicate n false)
    → ◌≡◌ {A = ImageView} (record { bytes = bytes; marks = flags_of new (grains_in (length bytes)); watched = watched; hits = hits }) (record { bytes = image.bytes; marks = replicate (length image.marks) false; watched = image.watched; hits = image.hits })
cleared_view bytes old new watched hits image is none =
    let count : flags_of new (grains_in (length bytes)) ≡ replicate (length (flags_of old (grains_in (length bytes)))) false = none (grains_in (length bytes)) ∙ ap (λ n. replicate n false) (sym (length-flags_of old (grains_in (length bytes)))) in
    ap {B = ImageView} (λ m. record { bytes = bytes; marks = m; watched = watched; hits = hits }) count
    ∙ ap {B = ImageView} (λ (i : ImageView). record { bytes = i.bytes; marks = replicate (length i.marks) false; watched = i.watched; hits = i.hits }) is

-- how many grains there are
pub grains_in-is : (len : ℕ) → grains_in len ≡ len / GRAIN + min 1 (len % GRAIN)
unfolding grains_in grain_of
grains_in-is zero = refl
grains_in-is (suc len) = omega arith

-- the next mark of the first so many
next_flag : (flags : List Bool) (n from next : ℕ) → next < n → NextMarked flags from (Some next) → NextMarked (flags_of flags n) from (Some next)
next_flag flags n from next within is = (is.0, flags_of-at flags n next within ∙ is.1, λ k on below. flags_of-at flags n k (omega arith) ∙ is.2 k on below)

no_flag : (flags : List Bool) (n from : ℕ) → NextMarked flags from None → NextMarked (flags_of flags n) from None
no_flag flags n from none k above = elim (cases_lt k n) [
  | inl within ↦ flags_of-at flags n k within ∙ none k above
  | inr past ↦ flags_of-past flags n k past
]

-- the next mark of an image, which may be past the last grain
pub next_marked_none : (bytes : List ℕ) (marks : List Bool) (watched hits : List Bool) (image : ImageView) (from : ℕ) → (record { bytes = bytes; marks = flags_of marks (grains_in (length bytes)); watched = watched; hits = hits }) ≡ image → NextMarked marks from None → NextMarked image.marks from None
next_marked_none bytes marks watched hits image from is none = subst (λ (i : ImageView). NextMarked i.marks from None) is (no_flag marks (grains_in (length bytes)) from none)

pub next_marked_some : (bytes : List ℕ) (marks : List Bool) (watched hits : List Bool) (image : ImageView) (from next : ℕ) → (record { bytes = bytes; marks = flags_of marks (grains_in (length bytes)); watched = watched; hits = hits }) ≡ image → next < grains_in (length bytes) → NextMarked marks from (Some next) → NextMarked image.marks from (Some next)
next_marked_some bytes marks watched hits image from next is within found = subst (λ (i : ImageView). NextMarked i.marks from (Some next)) is (next_flag marks (grains_in (length bytes)) from next within found)

pub next_marked_past : (bytes : List ℕ) (marks : List Bool) (watched hits : List Bool) (image : ImageView) (from next : ℕ) → (record { bytes = bytes; marks = flags_of marks (grains_in (length bytes)); watched = watched; hits = hits }) ≡ image → grains_in (length bytes) ≤ next → NextMarked marks from (Some next) → NextMarked image.marks from None
next_marked_past bytes marks watched hits image from next is past found = subst (λ (i : ImageView). NextMarked i.marks from None) is (λ k above. elim (cases_lt k (grains_in (length bytes))) [
  | inl within ↦ flags_of-at marks (grains_in (length bytes)) k within ∙ found.2 k above (omega arith)
  | inr beyond ↦ flags_of-past marks (grains_in (length bytes)) k beyond
])
