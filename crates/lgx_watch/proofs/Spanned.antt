-- Words that a place spans, and places in grains that aren't marked.
use Rattle.std.proofs.Common.{◌≡◌, ℕ, ◌+◌, ◌-◌, ◌*◌, ◌/◌, ◌^◌, ◌<◌, ◌≤◌, ◌⊎◌, inl, inr, Bool, true, false, ◌||◌, nat_le, max, refl, sym, ◌∙◌, arith}
use Rattle.std.proofs.lemmas.Bool.{cases_lt, and_parts, and_from, leb-true, le-leb, false≢true}
use Rattle.lgx_num.specs.declared.number.Kind.{Kind}
use Rattle.lgx_num.specs.declared.number.Kind.TheVariants.{Bool as KBool, Sint, Int, Dint}
use Rattle.lgx_num.specs.declared.place.Place.{Place}
use Rattle.lgx_image.specs.declared.hits.TheConstants.{WORD_BYTES}
use Rattle.lgx_num.specs.Number.{bytes_in}
use Rattle.lgx_image.specs.Grains.{grain_of, word_of, is_marked}
use Rattle.lgx_image.proofs.Marks.{grain_of-is, word_of-is}
use Rattle.lgx_image.proofs.Changes.{unmarked_place_stays, unhit_place_stays}
use Rattle.lgx_watch.specs.Watches.{LiesIn, LiesInWord, last_word, spans, UnmarkedWatchesStay, UnhitWatchesStay}
use Rattle.std.proofs.lemmas.Bool.{false_from_ne_true}

pub unmarked_watches_stay : UnmarkedWatchesStay
unmarked_watches_stay compared now p changes none = unmarked_place_stays compared now p changes (λ byte above below. false_from_ne_true (is_marked now.marks (grain_of byte)) (λ is. none (grain_of byte) is (byte, above, below, refl)))

pub unhit_watches_stay : UnhitWatchesStay
unhit_watches_stay compared now p changes on none = unhit_place_stays compared now p changes on (λ byte above below. false_from_ne_true (is_marked now.hits (word_of byte)) (λ is. none (word_of byte) is (byte, above, below, refl)))

-- a place lies in a grain where it lies in a word of it
pub word_in_grain : (p : Place) (grain word : ℕ) → 16 * grain ≤ word → word < 16 * grain + 16 → LiesInWord p word → LiesIn p grain
word_in_grain p grain word above below (byte, from, to, is) = (byte, from, to, grain_of-is byte ∙ (let at = word_of-is byte in omega arith))

pub grain_has_word : (p : Place) (grain : ℕ) → LiesIn p grain → (k : ℕ) × (k < 16) × LiesInWord p (grain * 16 + k)
grain_has_word p grain (byte, from, to, is) =
    let at = word_of-is byte in
    let in_grain = grain_of-is byte in
    (byte / 4 - grain * 16, omega arith, (byte, from, to, at ∙ omega arith))

-- what is in one of two sets, and no other, is in both together
pub in_first : (a b : Bool) → a ≡ true → (a || b) ≡ true
in_first true b is = refl
in_first false b is = absurd (false≢true is)

pub in_second : (a b : Bool) → b ≡ true → (a || b) ≡ true
in_second true b is = refl
in_second false b is = is

pub in_either : (a b : Bool) → (a || b) ≡ true → (a ≡ true) ⊎ (b ≡ true)
in_either true b is = inl refl
in_either false b is = inr is

-- a kind has a byte
some_byte : (k : Kind) → 0 < bytes_in k
some_byte KBool = omega arith
some_byte Sint = omega arith
some_byte Int = omega arith
some_byte Dint = omega arith

-- what the test says
pub spans-parts : (p : Place) (word : ℕ) → spans p word ≡ true → (word_of (p.at / 8) ≤ word) × (word ≤ last_word p)
spans-parts p word is =
    let parts = and_parts (nat_le (word_of (p.at / 8)) word) (nat_le word (last_word p)) is in
    (leb-true (word_of (p.at / 8)) word parts.0, leb-true word (last_word p) parts.1)

pub spans-from : (p : Place) (word : ℕ) → word_of (p.at / 8) ≤ word → word ≤ last_word p → spans p word ≡ true
spans-from p word first last =
    and_from (nat_le (word_of (p.at / 8)) word) (nat_le word (last_word p)) (le-leb (word_of (p.at / 8)) word first) (le-leb word (last_word p) last)

pub spans-not : (p : Place) (word : ℕ) → spans p word ≡ false → (word < word_of (p.at / 8)) ⊎ (last_word p < word)
spans-not p word not_so = elim (cases_lt word (word_of (p.at / 8))) [
  | inl before ↦ inl before
  | inr above ↦ elim (cases_lt (last_word p) word) [ inl after ↦ inr after | inr below ↦ absurd (false≢true (sym not_so ∙ spans-from p word above below)) ]
]

-- a place spans the words in which it has a byte, and no other
pub spans-from_lies : (p : Place) (word : ℕ) → LiesInWord p word → spans p word ≡ true
spans-from_lies p word (byte, above, below, is) =
    let at = word_of-is byte in
    let first = word_of-is (p.at / 8) in
    let last = word_of-is (p.at / 8 + bytes_in p.kind - 1) in
    spans-from p word (omega arith) (omega arith)

pub lies-from_spans : (p : Place) (word : ℕ) → spans p word ≡ true → LiesInWord p word
lies-from_spans p word is =
    let parts = spans-parts p word is in
    let first = word_of-is (p.at / 8) in
    let last = word_of-is (p.at / 8 + bytes_in p.kind - 1) in
    let some = some_byte p.kind in
    let byte = max (p.at / 8) (WORD_BYTES * word) in
    (byte, omega arith, omega arith, word_of-is byte ∙ omega arith)

-- the first of them isn't after the last
pub first-le-last : (p : Place) → word_of (p.at / 8) ≤ last_word p
first-le-last p =
    let first = word_of-is (p.at / 8) in
    let last = word_of-is (p.at / 8 + bytes_in p.kind - 1) in
    let some = some_byte p.kind in
    omega arith

-- the last word of a place that is numbered in 32 bits
pub last_word-small : (p : Place) → p.at < 2 ^ 32 → last_word p < 2 ^ 29
last_word-small p small = omega (arith, word_of-is (p.at / 8 + bytes_in p.kind - 1), few_bytes p.kind)
  where
    few_bytes : (k : Kind) → bytes_in k ≤ 4
    few_bytes KBool = omega arith
    few_bytes Sint = omega arith
    few_bytes Int = omega arith
    few_bytes Dint = omega arith
