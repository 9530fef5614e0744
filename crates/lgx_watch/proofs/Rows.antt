-- The rows of an index.
use Rattle.std.proofs.Common.{◌≡◌, ◌≢◌, ℕ, ◌+◌, ◌/◌, ◌<◌, ◌≤◌, ◌⊎◌, inl, inr, Bool, true, false, List, [], length, get_or, take, drop, ◌++◌, set, replicate, Some, None, refl, sym, ap, ◌∙◌, subst, arith}
use Rattle.std.proofs.lemmas.Bool.{cases_eq, cases_lt, false≢true}
use Rattle.std.proofs.lemmas.List.{get_or_past, get_or-replicate, length-replicate, get_or-set_same, get_or-set_other}
use Rattle.std.proofs.lemmas.Option.{slice_get_within, slice_get-get_or}
use Rattle.std.proofs.Math.Seq.{take-append_seam}
use Rattle.std.specs.Prelude.{slice_get}
use Rattle.lgx_num.specs.declared.number.Kind.TheVariants.{Bool as KBool}
use Rattle.lgx_num.specs.declared.place.Place.{Place}
use Rattle.lgx_image.specs.Grains.{word_of}
use Rattle.lgx_image.specs.Words.{bit_of_words}
use Rattle.lgx_image.proofs.Words.{bit_past}
use Rattle.lgx_watch.specs.declared.bits.TheConstants.{MAX_WATCHES}
use Rattle.lgx_watch.specs.Watches.{LiesInWord, NextMember, is_member, last_word, spans}
use Rattle.lgx_watch.specs.Index.{row, AreLone, IsIndex, IsLone, NumberAdded}
use Rattle.lgx_watch.proofs.Spanned.{spans-parts, spans-not, spans-from_lies, lies-from_spans}

-- ---- what an index tells

-- a watched place has its bit in the row of each word that it has a byte in
pub index_has : (places now : List Place) (rows : List (List ℕ)) (word w : ℕ) (p : Place) → places ≡ now → IsIndex places rows → slice_get now w ≡ Some p → LiesInWord p word → (w < MAX_WATCHES) × (bit_of_words (row rows word) w ≡ true)
index_has places now rows word w p same index at lies =
    let here : slice_get places w ≡ Some p = ap (λ ps. slice_get ps w) same ∙ at in
    let within : w < length places = slice_get_within places w p here in
    let few : length places ≤ MAX_WATCHES = index.few in
    (omega arith, index.watched word w p here ∙ spans-from_lies p word lies)

-- and no other has
pub index_only : (places now : List Place) (rows : List (List ℕ)) (word w : ℕ) → places ≡ now → IsIndex places rows → bit_of_words (row rows word) w ≡ true → (p : Place) × (slice_get now w ≡ Some p) × LiesInWord p word
index_only places now rows word w same index is = elim (cases_lt w (length places)) [
  | inl within ↦
      let none : Place = record { kind = KBool; at = 0 } in
      let p = get_or places w none in
      let here : slice_get places w ≡ Some p = slice_get-get_or places w none within in
      (p, ap (λ ps. slice_get ps w) (sym same) ∙ here, lies-from_spans p word (sym (index.watched word w p here) ∙ is))
  | inr past ↦ absurd (false≢true (sym (index.others word w past) ∙ is))
]

-- a word past the last row has none
pub no_row : (rows : List (List ℕ)) (word w : ℕ) → length rows ≤ word → bit_of_words (row rows word) w ≡ false
no_row rows word w past = ap (λ words. bit_of_words words w) (get_or_past rows word [] past) ∙ bit_past [] w (omega arith)

-- ---- places are added in turn

-- the rows of the first n watched places, with room for all of them
pub record IsPartIndex (places : List Place) (n : ℕ) (rows : List (List ℕ)) : Type 0 where
  pub watched : (word w : ℕ) (p : Place) → w < n → slice_get places w ≡ Some p → bit_of_words (row rows word) w ≡ spans p word
  pub others : (word w : ℕ) → n ≤ w → bit_of_words (row rows word) w ≡ false
  pub room : (w : ℕ) (p : Place) → slice_get places w ≡ Some p → last_word p < length rows

-- a place more
more_place : (places : List Place) (n : ℕ) (place : Place) (old new : List (List ℕ)) → slice_get places n ≡ Some place → NumberAdded n (word_of (place.at / 8)) (last_word place + 1) old new → IsPartIndex places n old → IsPartIndex places (n + 1) new
more_place places n place old new here add is = record {
  watched = λ word w p below at. elim (cases_eq w n) [
    | inl same ↦
        let p_is : p ≡ place = cc in
        ap (λ k. bit_of_words (row new word) k) same ∙ its_bit word (spans place word) refl ∙ ap (λ q. spans q word) (sym p_is)
    | inr other ↦ add.others word w (inl other) ∙ is.watched word w p (omega arith) at
  ];
  others = λ word w above. add.others word w (inl (omega arith)) ∙ is.others word w (omega arith);
  room = λ w p at. omega (arith, is.room w p at, add.len);
}
  where
    outside : (word : ℕ) → (word < word_of (place.at / 8)) ⊎ (last_word place < word) → (n ≢ n) ⊎ ((word < word_of (place.at / 8)) ⊎ (last_word place + 1 ≤ word))
    outside word (inl before) = inr (inl before)
    outside word (inr after) = inr (inr (omega arith))

    its_bit : (word : ℕ) (b : Bool) → spans place word ≡ b → bit_of_words (row new word) n ≡ spans place word
    its_bit word true has = let parts = spans-parts place word has in add.added word parts.0 (omega (arith, parts.1)) ∙ sym has
    its_bit word false lacks = add.others word n (outside word (spans-not place word lacks)) ∙ is.others word n (omega arith) ∙ sym lacks

-- as a loop adds it, to all rows of a vector
pub one_more_place : (places : List Place) (n : ℕ) (d : Place) (len : ℕ) (rows old new : List (List ℕ)) → n < length places → old ≡ rows → (let place = get_or places n d in NumberAdded n (word_of (place.at / 8)) (last_word place + 1) old new) → len ≡ length new → IsPartIndex places n rows → IsPartIndex places (n + 1) (take len (new ++ drop (length new) rows))
one_more_place places n d len rows old new below same add whole is =
    let place = get_or places n d in
    let written : take len (new ++ drop (length new) rows) ≡ new = ap (λ m. take m (new ++ drop (length new) rows)) whole ∙ take-append_seam new (drop (length new) rows) in
    let before : IsPartIndex places n old = rw same is in
    rw written (more_place places n place old new (slice_get-get_or places n d below) add before)

-- with all places in, it is the index
pub whole_index : (places kept : List Place) (rows : List (List ℕ)) (n : ℕ) → kept ≡ places → n ≡ length places → length places ≤ MAX_WATCHES → IsPartIndex places n rows → IsIndex kept rows
whole_index places kept rows n same all few is = rw (same) (record {
  few = few;
  watched = λ word w p at. is.watched word w p (omega (arith, slice_get_within places w p at)) at;
  others = λ word w past. is.others word w (omega arith);
})

-- ---- rows with one member

-- the least member is the one member, if none follows
pub lone-is : (words : List ℕ) (members : List Bool) (first : ℕ) → ((w : ℕ) → w < MAX_WATCHES → is_member members w ≡ bit_of_words words w) → NextMember members 0 (Some first) → NextMember members (first + 1) None → IsLone words first
lone-is words members first same least none below w within has =
    let member : is_member members w ≡ true = same w within ∙ has in
    elim (cases_eq w first) [
      | inl here ↦ here
      | inr other ↦ elim (cases_lt w first) [
        | inl before ↦ absurd (false≢true (sym (least.2 w (omega arith) before) ∙ member))
        | inr after ↦ absurd (false≢true (sym (none w (omega arith)) ∙ member))
      ]
    ]

-- before any is noted
pub none-alone : (rows : List (List ℕ)) (n : ℕ) → AreLone rows (replicate n MAX_WATCHES)
none-alone rows n word = λ below. absurd (omega (arith, below, is))
  where
    is : get_or (replicate n MAX_WATCHES) word MAX_WATCHES ≡ MAX_WATCHES
    is = elim (cases_lt word n) [
      | inl within ↦ get_or-replicate n word MAX_WATCHES MAX_WATCHES within
      | inr past ↦ get_or_past (replicate n MAX_WATCHES) word MAX_WATCHES (omega (arith, past, length-replicate n MAX_WATCHES))
    ]

-- one more is noted
pub alone-noted : (rows : List (List ℕ)) (lones : List ℕ) (at number : ℕ) → at < length lones → IsLone (row rows at) number → AreLone rows lones → AreLone rows (set lones at number)
alone-noted rows lones at number within lone are word = elim (cases_eq word at) [
  | inl here ↦ subst (λ k. IsLone (row rows k) (get_or (set lones at number) k MAX_WATCHES)) (sym here) (subst (IsLone (row rows at)) (sym (get_or-set_same lones at number MAX_WATCHES within)) lone)
  | inr other ↦ subst (IsLone (row rows word)) (sym (get_or-set_other lones at word number MAX_WATCHES other)) (are word)
]

-- as a loop notes them, in all of a vector
pub noted-whole : (len : ℕ) (lones new : List ℕ) → len ≡ length new → take len (new ++ drop (length new) lones) ≡ new
noted-whole len lones new whole = ap (λ m. take m (new ++ drop (length new) lones)) whole ∙ take-append_seam new (drop (length new) lones)

-- a watched place that has a byte in a word is the one member of its row
pub lone-place : (places now : List Place) (rows : List (List ℕ)) (lones : List ℕ) (word w : ℕ) (p : Place) → places ≡ now → IsIndex places rows → AreLone rows lones → get_or lones word MAX_WATCHES < length places → slice_get now w ≡ Some p → LiesInWord p word → w ≡ get_or lones word MAX_WATCHES
lone-place places now rows lones word w p same index are known at lies =
    let has = index_has places now rows word w p same index at lies in
    let few : length places ≤ MAX_WATCHES = index.few in
    are word (omega arith) w has.0 has.1
