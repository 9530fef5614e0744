-- Words that are watched and hit.
use Rattle.std.proofs.Common.{◌≡◌, ◌≢◌, ℕ, zero, suc, ◌+◌, ◌-◌, ◌/◌, ◌%◌, ◌<◌, ◌≤◌, ◌⊎◌, inl, inr, Bool, true, false, ◌||◌, List, length, get_or, set, replicate, eqb, min, max, refl, sym, ap, subst, ◌∙◌, arith, Option, Some, None, length-set, get_or-set_same, get_or-set_other}
use Rattle.std.specs.Int.{bit_at}
use Rattle.std.proofs.lemmas.Bool.{cases_eq, cases_lt, false≢true}
use Rattle.std.proofs.lemmas.List.{get_or_past, ext_get_or, get_or-replicate, length-replicate}
use Rattle.lgx_num.specs.Image.{piece, splice}
use Rattle.lgx_num.proofs.Images.{splice_before, splice_behind, length-piece}
use Rattle.spec_base.specs.declared.limits.TheConstants.{MAX_IMAGE_BYTES}
use Rattle.lgx_image.specs.declared.hits.TheConstants.{MAX_WORDS}
use Rattle.lgx_image.specs.Grains.{ImageView, word_of, is_marked, HitsAfter, HitsWritten, NextMarked}
use Rattle.lgx_image.specs.Words.{bit_of_words, marks_of, AreBetween, IsNoted, Cleared, NextBit}
use Rattle.lgx_image.proofs.Marks.{word_of-is}
use Rattle.lgx_image.proofs.Words.{length-marks_of, marks_of-at, marks_of-past, no_bit}
use Rattle.lgx_image.proofs.Pieces.{piece-at, splice-at}

-- ---- lists of truth values that have a place for each bit

-- it has the same truth value where it has the same bit, and none where no bit is set
pub marks_of-same : (old new : List ℕ) (n g : ℕ) → bit_of_words new g ≡ bit_of_words old g → is_marked (marks_of new n) g ≡ is_marked (marks_of old n) g
marks_of-same old new n g same = elim (cases_lt g n) [
  | inl within ↦ marks_of-at new n g within ∙ same ∙ sym (marks_of-at old n g within)
  | inr past ↦ marks_of-past new n g past ∙ sym (marks_of-past old n g past)
]

pub marks_of-off : (words : List ℕ) (n g : ℕ) → bit_of_words words g ≡ false → is_marked (marks_of words n) g ≡ false
marks_of-off words n g off = elim (cases_lt g n) [
  | inl within ↦ marks_of-at words n g within ∙ off
  | inr past ↦ marks_of-past words n g past
]

-- one bit is set
pub marks_of-set : (old new : List ℕ) (n g : ℕ) → g < n → bit_of_words new g ≡ true → ((other : ℕ) → other ≢ g → bit_of_words new other ≡ bit_of_words old other) → marks_of new n ≡ set (marks_of old n) g true
marks_of-set old new n g within is others =
    ext_get_or false (marks_of new n) (set (marks_of old n) g true)
    (length-marks_of new n ∙ sym (length-set (marks_of old n) g true ∙ length-marks_of old n))
    (λ k below.
    let there : k < n = omega (arith, length-marks_of new n) in
    marks_of-at new n k there ∙ each k there)
  where
    each : (k : ℕ) → k < n → bit_of_words new k ≡ is_marked (set (marks_of old n) g true) k
    each k there = elim (cases_eq k g) [
      | inl same ↦ rw same (is ∙ sym (get_or-set_same (marks_of old n) g true false (omega (arith, length-marks_of old n))))
      | inr apart ↦ others k apart ∙ sym (get_or-set_other (marks_of old n) g k true false apart ∙ marks_of-at old n k there)
    ]

-- ---- between the first and the end

-- no bit is set in words that are 0
pub zero_bit : (n g : ℕ) → bit_of_words (replicate n 0) g ≡ false
zero_bit n g = no_bit (replicate n 0) g (zeros (g / 64))
  where
    zeros : (i : ℕ) → get_or {A = ℕ} (replicate n 0) i 0 ≡ 0
    zeros i = elim (cases_lt i n) [
      | inl within ↦ get_or-replicate n i 0 0 within
      | inr past ↦ get_or_past (replicate n 0) i 0 (omega (arith, length-replicate {A = ℕ} n 0))
    ]

-- so none is marked
pub no_marks : (n grains g : ℕ) → is_marked (marks_of (replicate n 0) grains) g ≡ false
no_marks n grains g = marks_of-off (replicate n 0) grains g (zero_bit n g)

pub none_between : (words : List ℕ) (first : ℕ) → ((g : ℕ) → bit_of_words words g ≡ false) → AreBetween words first 0
none_between words first none = record {
  within = λ g on. absurd (false≢true (sym (none g) ∙ on));
  some = λ l. absurd (omega arith);
  few = omega arith;
}

-- a bit more, and the first is the lesser one
pub one_more_between : (old new : List ℕ) (first end first' end' g : ℕ) → AreBetween old first end → g < MAX_WORDS → bit_of_words new g ≡ true → ((other : ℕ) → other ≢ g → bit_of_words new other ≡ bit_of_words old other)
    → ((end ≡ 0) × (first' ≡ g)) ⊎ ((0 < end) × (first' ≡ min first g)) → end' ≡ max end (g + 1) → AreBetween new first' end'
one_more_between old new first end first' end' g are small is others which ends = record {
  within = λ k on. elim (cases_eq k g) [
    | inl same ↦ (least_of_its k same which, omega (arith, same))
    | inr apart ↦ (let both = are.within k (sym (others k apart) ∙ on) in (least_of_old k both.0 both.1 which, omega (arith, both.1)))
  ];
  some = λ l. first_is which;
  few = (let room = are.few in omega (arith, room));
}
  where
    least_of_its : (k : ℕ) → k ≡ g → ((end ≡ 0) × (first' ≡ g)) ⊎ ((0 < end) × (first' ≡ min first g)) → first' ≤ k
    least_of_its k same (inl (none, e)) = omega arith
    least_of_its k same (inr (some, e)) = omega arith

    least_of_old : (k : ℕ) → first ≤ k → k < end → ((end ≡ 0) × (first' ≡ g)) ⊎ ((0 < end) × (first' ≡ min first g)) → first' ≤ k
    least_of_old k above below (inl (none, e)) = absurd (omega arith)
    least_of_old k above below (inr (some, e)) = omega arith

    first_is : ((end ≡ 0) × (first' ≡ g)) ⊎ ((0 < end) × (first' ≡ min first g)) → bit_of_words new first' ≡ true
    first_is (inl (none, e)) = rw e is
    first_is (inr (some, e)) = elim (cases_lt first g) [
      | inl less ↦ (let kept : first' ≡ first = omega arith in ap (bit_of_words new) kept ∙ others first (omega arith) ∙ are.some some)
      | inr above ↦ (let its : first' ≡ g = omega arith in ap (bit_of_words new) its ∙ is)
    ]

-- none is set below the first
pub bits_below : (words : List ℕ) (first end g : ℕ) → AreBetween words first end → (g < first) ⊎ (end ≤ g) → bit_of_words words g ≡ false
bits_below words first end g are apart = by_bit (bit_of_words words g) refl apart
  where
    by_bit : (b : Bool) → bit_of_words words g ≡ b → (g < first) ⊎ (end ≤ g) → bit_of_words words g ≡ false
    by_bit false is out = is
    by_bit true is (inl below) = (let both = are.within g is in absurd (omega (arith, both.0)))
    by_bit true is (inr past) = (let both = are.within g is in absurd (omega (arith, both.1)))

-- the next one, looked for from the first on
pub next_between : (words : List ℕ) (first end from : ℕ) (o : Option ℕ) → AreBetween words first end → NextBit words (max from first) o → NextBit words from o
next_between words first end from None are none = λ k above. elim (cases_lt k first) [
  | inl below ↦ bits_below words first end k are (inl below)
  | inr on ↦ none k (omega arith)
]
next_between words first end from (Some next) are is =
    let above = is.0 in (
      omega (arith, above),
      is.1,
      λ k on below. elim (cases_lt k first) [
        | inl before ↦ bits_below words first end k are (inl before)
        | inr after ↦ is.2 k (omega arith) below
      ],
    )

-- their list has the bit of each
pub marks_between : (words : List ℕ) (first end g : ℕ) → AreBetween words first end → is_marked (marks_of words MAX_WORDS) g ≡ bit_of_words words g
marks_between words first end g are = elim (cases_lt g MAX_WORDS) [
  | inl within ↦ marks_of-at words MAX_WORDS g within
  | inr past ↦ marks_of-past words MAX_WORDS g past ∙ sym (bits_below words first end g are (inr (let room = are.few in omega (arith, room))))
]

-- the next bit as a mark
pub next_mark_between : (words : List ℕ) (first end from : ℕ) (o : Option ℕ) → AreBetween words first end → NextBit words (max from first) o → NextMarked (marks_of words MAX_WORDS) from o
next_mark_between words first end from o are is = go o (next_between words first end from o are is)
  where
    go : (found : Option ℕ) → NextBit words from found → NextMarked (marks_of words MAX_WORDS) from found
    go None none = λ k above. marks_between words first end k are ∙ none k above
    go (Some next) is = (is.0, marks_between words first end next are ∙ is.1, λ k on below. marks_between words first end k are ∙ is.2 k on below)

-- none is marked from the end on, and so none at all if the end is 0
pub none_from : (words : List ℕ) (first end g : ℕ) → AreBetween words first end → end ≤ g → is_marked (marks_of words MAX_WORDS) g ≡ false
none_from words first end g are past = marks_between words first end g are ∙ bits_below words first end g are (inr past)

-- ---- words that changed

pub noted_hit : (watched : List ℕ) (old new : List Bool) (word : ℕ) → word < MAX_WORDS → bit_of_words watched word ≡ true → is_marked new word ≡ true → ((other : ℕ) → other ≢ word → is_marked new other ≡ is_marked old other) → IsNoted (marks_of watched MAX_WORDS) old new word
noted_hit watched old new word small seen its others = record {
  its = its ∙ sym (or_true (is_marked old word) (is_marked (marks_of watched MAX_WORDS) word) (marks_of-at watched MAX_WORDS word small ∙ seen));
  others = others;
}
  where
    or_true : (a b : Bool) → b ≡ true → (a || b) ≡ true
    or_true true b is = refl
    or_true false b is = is

pub noted_not : (watched : List ℕ) (hits : List Bool) (word : ℕ) → bit_of_words watched word ≡ false → IsNoted (marks_of watched MAX_WORDS) hits hits word
noted_not watched hits word off = record {
  its = or_false (is_marked hits word) (is_marked (marks_of watched MAX_WORDS) word) (marks_of-off watched MAX_WORDS word off);
  others = λ other apart. refl;
}
  where
    or_false : (a b : Bool) → b ≡ false → a ≡ (a || b)
    or_false true b is = refl
    or_false false b is = sym is

-- ---- clearing

-- a word more is cleared
pub cleared_more : (old now : List ℕ) (word : ℕ) → word < length now → Cleared old now word → Cleared old (set now word 0) (word + 1)
cleared_more old now word is so = record {
  len = length-set now word 0 ∙ so.len;
  none = λ g below. elim (cases_eq (g / 64) word) [
    | inl same ↦ no_bit (set now word 0) g (rw same (get_or-set_same now word 0 0 is))
    | inr other ↦ apart g other ∙ so.none g (omega (arith, other))
  ];
  rest = λ g above. apart g (λ e. absurd (omega arith)) ∙ so.rest g (omega arith);
}
  where
    apart : (g : ℕ) → g / 64 ≢ word → bit_of_words (set now word 0) g ≡ bit_of_words now g
    apart g other = ap (λ x. eqb (bit_at x (g % 64)) 1) (get_or-set_other now word (g / 64) 0 0 other)

-- none is set before the first word that is cleared
pub cleared_before : (words : List ℕ) (first end : ℕ) → AreBetween words first end → Cleared words words (first / 64)
cleared_before words first end are = record {
  len = refl;
  none = λ g below. bits_below words first end g are (inl (omega arith));
  rest = λ g above. refl;
}

-- and none after the last
pub cleared_all : (old new : List ℕ) (first end : ℕ) → AreBetween old first end → 0 < end → Cleared old new ((end - 1) / 64 + 1) → (g : ℕ) → bit_of_words new g ≡ false
cleared_all old new first end are some so g = elim (cases_lt (g / 64) ((end - 1) / 64 + 1)) [
  | inl early ↦ so.none g early
  | inr late ↦ so.rest g late ∙ bits_below old first end g are (inr (omega arith))
]

-- ---- hits after a change

-- nothing changed
pub hits_same : (watched old new : List Bool) (before after : List ℕ) → new ≡ old → ((byte : ℕ) → get_or after byte 0 ≡ get_or before byte 0) → HitsAfter watched old new before after
hits_same watched old new before after hits bytes = record {
  stays = λ word on. ap (λ h. is_marked h word) hits ∙ on;
  changed = λ byte seen differs. absurd (differs (bytes byte));
  only = λ word off on. absurd (false≢true (sym off ∙ sym (ap (λ h. is_marked h word) hits) ∙ on));
}

either : (a b : Bool) → (a || b) ≡ true → a ≡ false → b ≡ true
either true b is none = absurd (false≢true (sym none))
either false b is none = is

-- bytes of one word changed
pub hits_noted : (watched old new : List Bool) (before after : List ℕ) (at size word some : ℕ) → ((byte : ℕ) → (byte < at) ⊎ (at + size ≤ byte) → get_or after byte 0 ≡ get_or before byte 0)
    → ((byte : ℕ) → at ≤ byte → byte < at + size → word_of byte ≡ word) → word_of some ≡ word → get_or after some 0 ≢ get_or before some 0 → IsNoted watched old new word → HitsAfter watched old new before after
hits_noted watched old new before after at size word some outside inside holds differs noted = record {
  stays = λ w on. elim (cases_eq w word) [
    | inl same ↦ rw same (noted.its ∙ ap (λ b. b || is_marked watched word) (ap (is_marked old) (sym same) ∙ on))
    | inr apart ↦ noted.others w apart ∙ on
  ];
  changed = λ byte seen other.
      let here = in_word byte other in
      rw here (noted.its ∙ ap (λ b. is_marked old word || b) (ap (is_marked watched) (sym here) ∙ seen) ∙ or_true (is_marked old word));
  only = λ w off on. elim (cases_eq w word) [
    | inl same ↦ (
        let seen = either (is_marked old word) (is_marked watched word) (sym noted.its ∙ ap (is_marked new) (sym same) ∙ on) (ap (is_marked old) (sym same) ∙ off) in
        (ap (is_marked watched) same ∙ seen, some, holds ∙ sym same, differs))
    | inr apart ↦ absurd (false≢true (sym off ∙ sym (noted.others w apart) ∙ on))
  ];
}
  where
    or_true : (b : Bool) → (b || true) ≡ true
    or_true true = refl
    or_true false = refl

    in_word : (byte : ℕ) → get_or after byte 0 ≢ get_or before byte 0 → word_of byte ≡ word
    in_word byte other = elim (cases_lt byte at) [
      | inl early ↦ absurd (other (outside byte (inl early)))
      | inr above ↦ elim (cases_lt byte (at + size)) [
        | inl below ↦ inside byte above below
        | inr late ↦ absurd (other (outside byte (inr late)))
      ]
    ]

-- one change after another, of other bytes
pub hits_follow : (watched first second third : List Bool) (one two three : List ℕ) → HitsAfter watched first second one two → HitsAfter watched second third two three
    → ((byte : ℕ) → get_or two byte 0 ≢ get_or one byte 0 → get_or three byte 0 ≡ get_or two byte 0) → HitsAfter watched first third one three
hits_follow watched first second third one two three was is apart = record {
  stays = λ word on. is.stays word (was.stays word on);
  changed = λ byte seen differs. elim (cases_eq (get_or two byte 0) (get_or one byte 0)) [
    | inl same ↦ is.changed byte seen (λ e. differs (e ∙ same))
    | inr other ↦ is.stays (word_of byte) (was.changed byte seen other)
  ];
  only = λ word off on. by_hit word (is_marked second word) refl off on;
}
  where
    by_hit : (word : ℕ) (b : Bool) → is_marked second word ≡ b → is_marked first word ≡ false → is_marked third word ≡ true → (is_marked watched word ≡ true) × (byte : ℕ) × (word_of byte ≡ word) × (get_or three byte 0 ≢ get_or one byte 0)
    by_hit word true middle off on =
        let by = was.only word off middle in
        (by.0, by.1, by.2, λ e. by.3 (sym (apart by.1 by.3) ∙ e))
    by_hit word false middle off on =
        let by = is.only word middle on in
        elim (cases_eq (get_or two by.1 0) (get_or one by.1 0)) [
          | inl same ↦ (by.0, by.1, by.2, λ e. by.3 (e ∙ sym same))
          | inr other ↦ absurd (by.3 (apart by.1 other))
        ]

-- a piece that isn't as it was has a byte that isn't
pub some_differs : (before after : List ℕ) (at size : ℕ) → length after ≡ length before → ((byte : ℕ) → (byte < at) ⊎ (at + size ≤ byte) → get_or after byte 0 ≡ get_or before byte 0) → after ≢ before
    → (byte : ℕ) × (at ≤ byte) × (byte < at + size) × (get_or after byte 0 ≢ get_or before byte 0)
some_differs before after at zero len outside apart = absurd (apart (ext_get_or 0 after before len (λ k within. elim (cases_lt k at) [ inl early ↦ outside k (inl early) | inr late ↦ outside k (inr (omega arith)) ])))
some_differs before after at (suc n) len outside apart = elim (cases_eq (get_or after at 0) (get_or before at 0)) [
  | inr other ↦ (at, omega arith, omega arith, other)
  | inl same ↦ (
      let found = some_differs before after (at + 1) n len (beside same) apart in
      (found.0, omega (arith, found.1), omega (arith, found.2), found.3))
]
  where
    beside : get_or after at 0 ≡ get_or before at 0 → (byte : ℕ) → (byte < at + 1) ⊎ (at + 1 + n ≤ byte) → get_or after byte 0 ≡ get_or before byte 0
    beside same byte (inl early) = elim (cases_eq byte at) [
      | inl here ↦ rw here same
      | inr other ↦ outside byte (inl (omega (arith, other)))
    ]
    beside same byte (inr late) = outside byte (inr (omega arith))

-- ---- byte after byte

-- two images have the same bytes beside a piece
abbrev pub SameBeside : List ℕ → List ℕ → ℕ → ℕ → Type 0
SameBeside before after at size = (byte : ℕ) → (byte < at) ⊎ (at + size ≤ byte) → get_or after byte 0 ≡ get_or before byte 0

pub one_beside : (bytes : List ℕ) (at b : ℕ) → SameBeside bytes (set bytes at b) at 1
one_beside bytes at b byte (inl early) = get_or-set_other bytes at byte b 0 (omega arith)
one_beside bytes at b byte (inr late) = get_or-set_other bytes at byte b 0 (omega arith)

pub more_beside : (before after : List ℕ) (at size next b : ℕ) → next ≡ at + size → SameBeside before after at size → SameBeside before (set after next b) at (size + 1)
more_beside before after at size next b is same byte (inl early) = get_or-set_other after next byte b 0 (omega arith) ∙ same byte (inl early)
more_beside before after at size next b is same byte (inr late) = get_or-set_other after next byte b 0 (omega arith) ∙ same byte (inr (omega arith))

-- the next byte of a piece is written
pub first_beside : (inside old new : ImageView) (at b : ℕ) → inside ≡ old → new.bytes ≡ set inside.bytes at b → SameBeside old.bytes new.bytes at 1
first_beside inside old new at b same written byte apart =
    ap (λ bytes. get_or bytes byte 0) written ∙ one_beside inside.bytes at b byte apart ∙ ap (λ (i : ImageView). get_or i.bytes byte 0) same

pub next_beside : (old new next : ImageView) (at size to b : ℕ) → to ≡ at + size → SameBeside old.bytes new.bytes at size → next.bytes ≡ set new.bytes to b → SameBeside old.bytes next.bytes at (size + 1)
next_beside old new next at size to b is beside written byte apart = ap (λ bytes. get_or bytes byte 0) written ∙ more_beside old.bytes new.bytes at size to b is beside byte apart

pub next_byte : (old new next : ImageView) (at size to b : ℕ) → to ≡ at + size → new.watched ≡ old.watched → SameBeside old.bytes new.bytes at size → next.bytes ≡ set new.bytes to b → HitsWritten old new → HitsWritten new next → HitsWritten old next
next_byte old new next at size to b is watched beside written was then =
    hits_follow old.watched old.hits new.hits next.hits old.bytes new.bytes next.bytes was (subst (λ w. HitsAfter w new.hits next.hits new.bytes next.bytes) watched then)
    (λ byte other. ap (λ bytes. get_or bytes byte 0) written ∙ get_or-set_other new.bytes to byte b 0 (λ here. other (beside byte (inr (omega (arith, here))))))

-- as an image shows it to its callers
pub written_hits : (inside image : ImageView) (hits : List Bool) (was now after : List ℕ) → inside ≡ image → was ≡ inside.bytes → HitsAfter inside.watched inside.hits hits was now → after ≡ now → HitsAfter image.watched image.hits hits image.bytes after
written_hits inside image hits was now after same read written back =
    subst (λ (i : ImageView). HitsAfter i.watched i.hits hits i.bytes after) same
    (subst (λ b. HitsAfter inside.watched inside.hits hits b after) read (subst (λ b. HitsAfter inside.watched inside.hits hits was b) (sym back) written))

-- the word of a byte of an image
pub word_below : (byte len : ℕ) → byte < len → len ≤ MAX_IMAGE_BYTES → word_of byte < MAX_WORDS
word_below byte len within small = omega (arith, word_of-is byte)

-- a byte is written: it changed, or not
pub byte_changed : (watched old new : List Bool) (bytes : List ℕ) (at b : ℕ) → at < length bytes → b ≢ get_or bytes at 0 → IsNoted watched old new (word_of at) → HitsAfter watched old new bytes (set bytes at b)
byte_changed watched old new bytes at b within differs noted =
    hits_noted watched old new bytes (set bytes at b) at 1 (word_of at) at (one_beside bytes at b) (λ byte above below. (let here : byte ≡ at = omega arith in ap word_of here)) refl (λ e. differs (sym (get_or-set_same bytes at b 0 within) ∙ e)) noted

pub byte_same : (watched old new : List Bool) (bytes : List ℕ) (at b : ℕ) → b ≡ get_or bytes at 0 → new ≡ old → HitsAfter watched old new bytes (set bytes at b)
byte_same watched old new bytes at b is hits = hits_same watched old new bytes (set bytes at b) hits (λ byte. elim (cases_eq byte at) [
  | inl here ↦ rw here its
  | inr other ↦ get_or-set_other bytes at byte b 0 other
])
  where
    its : get_or (set bytes at b) at 0 ≡ get_or bytes at 0
    its = elim (cases_lt at (length bytes)) [
      | inl within ↦ get_or-set_same bytes at b 0 within ∙ is
      | inr past ↦ get_or_past (set bytes at b) at 0 (omega (arith, length-set bytes at b)) ∙ sym (get_or_past bytes at 0 past)
    ]

-- ---- copies

-- an image after the first bytes of a copy
abbrev pub copied : List ℕ → ℕ → ℕ → ℕ → List ℕ
copied bytes source target n = splice bytes target (piece bytes source n)

module _ (bytes : List ℕ) (source target : ℕ) where
  copied_inside : (n byte : ℕ) → target + n ≤ length bytes → target ≤ byte → byte < target + n → get_or (copied bytes source target n) byte 0 ≡ get_or bytes (source + (byte - target)) 0
  copied_inside n byte room above below =
      splice-at bytes target (piece bytes source n) (byte - target) byte (omega (arith, length-piece bytes source n)) (omega (arith, length-piece bytes source n)) (omega arith)
      ∙ piece-at bytes source n (byte - target) (source + (byte - target)) (omega arith) refl

  copied_beside : (n : ℕ) → SameBeside bytes (copied bytes source target n) target n
  copied_beside n byte (inl early) = splice_before bytes target (piece bytes source n) byte early
  copied_beside n byte (inr late) = splice_behind bytes target (piece bytes source n) byte (omega (arith, length-piece bytes source n))

  -- one byte more changes that byte alone
  one_copied : (n byte : ℕ) → target + (n + 1) ≤ length bytes → byte ≢ target + n → get_or (copied bytes source target (n + 1)) byte 0 ≡ get_or (copied bytes source target n) byte 0
  one_copied n byte room other = elim (cases_lt byte target) [
    | inl early ↦ copied_beside (n + 1) byte (inl early) ∙ sym (copied_beside n byte (inl early))
    | inr above ↦ elim (cases_lt byte (target + n)) [
      | inl below ↦ copied_inside (n + 1) byte room above (omega arith) ∙ sym (copied_inside n byte (omega arith) above below)
      | inr late ↦ copied_beside (n + 1) byte (inr (omega (arith, other))) ∙ sym (copied_beside n byte (inr late))
    ]
  ]

  its_copied : (n : ℕ) → target + (n + 1) ≤ length bytes → get_or (copied bytes source target (n + 1)) (target + n) 0 ≡ get_or bytes (source + n) 0
  its_copied n room =
      let from : source + (target + n - target) ≡ source + n = omega arith in
      copied_inside (n + 1) (target + n) room (omega arith) (omega arith) ∙ ap (λ k. get_or bytes k 0) from

  module _ (watched start old new : List Bool) (n : ℕ) (room : target + (n + 1) ≤ length bytes) (so : HitsAfter watched start old bytes (copied bytes source target n)) where
    follows : HitsAfter watched old new (copied bytes source target n) (copied bytes source target (n + 1)) → HitsAfter watched start new bytes (copied bytes source target (n + 1))
    follows one =
        hits_follow watched start old new bytes (copied bytes source target n) (copied bytes source target (n + 1)) so one
        (λ byte other. one_copied n byte room (λ here. other (copied_beside n byte (inr (omega (arith, here))))))

    before_it : get_or (copied bytes source target n) (target + n) 0 ≡ get_or bytes (target + n) 0
    before_it = copied_beside n (target + n) (inr (omega arith))

    pub copy_noted : get_or bytes (target + n) 0 ≢ get_or bytes (source + n) 0 → IsNoted watched old new (word_of (target + n)) → HitsAfter watched start new bytes (copied bytes source target (n + 1))
    copy_noted differs noted =
        follows
        (hits_noted watched old new (copied bytes source target n) (copied bytes source target (n + 1)) (target + n) 1 (word_of (target + n)) (target + n)
        beside
        (λ byte above below. (let here : byte ≡ target + n = omega arith in ap word_of here)) refl
        (λ e. differs (sym before_it ∙ sym e ∙ its_copied n room))
        noted)
      where
        beside : SameBeside (copied bytes source target n) (copied bytes source target (n + 1)) (target + n) 1
        beside byte (inl early) = one_copied n byte room (omega arith)
        beside byte (inr late) = one_copied n byte room (omega arith)

    pub copy_not_noted : get_or bytes (target + n) 0 ≡ get_or bytes (source + n) 0 → new ≡ old → HitsAfter watched start new bytes (copied bytes source target (n + 1))
    copy_not_noted same hits =
        follows
        (hits_same watched old new (copied bytes source target n) (copied bytes source target (n + 1)) hits (λ byte. elim (cases_eq byte (target + n)) [
          | inl here ↦ rw here (its_copied n room ∙ sym same ∙ sym before_it)
          | inr other ↦ one_copied n byte room other
        ]))
