-- The watched places that have a byte in a word that is hit, word by word.
use Rattle.std.proofs.Common.{◌≡◌, ℕ, suc, ◌<◌, ◌≤◌, ◌⊎◌, inl, inr, Bool, true, false, ◌||◌, List, length, Option, Some, None, IfSome, slice_get, refl, sym, ap, ◌∙◌, subst, arith}
use Rattle.std.proofs.lemmas.Bool.{cases_lt, false≢true}
use Rattle.std.proofs.lemmas.Option.{slice_get_within}
use Rattle.spec_base.specs.declared.limits.TheConstants.{MAX_IMAGE_BYTES}
use Rattle.lgx_num.specs.declared.place.Place.{Place}
use Rattle.lgx_image.specs.Grains.{ImageView, is_marked, NextHit}
use Rattle.lgx_watch.specs.Watches.{LiesInWord, is_member}
use Rattle.lgx_record.specs.Changes.{AreInside, HasWritten, IsLoneWritten}
use Rattle.lgx_record.proofs.Changed.{small_word}

-- the set has the places that have a byte in a word below from that is hit
pub record IsJoined (places : List Place) (image : ImageView) (set : List Bool) (from : ℕ) : Type 0 where
  pub members : (word : ℕ) → word < from → is_marked image.hits word ≡ true → (w : ℕ) (p : Place) → slice_get places w ≡ Some p → LiesInWord p word → is_member set w ≡ true
  pub known : (w : ℕ) → is_member set w ≡ true → w < length places

pub join-starts : (places : List Place) (image : ImageView) (set : List Bool) → ((w : ℕ) → is_member set w ≡ false) → IsJoined places image set 0
join-starts places image set none = record {
  members = λ word l. absurd (omega arith);
  known = λ w is. absurd (false≢true (sym (none w) ∙ is));
}

module _ (places : List Place) (image : ImageView) (set row joined : List Bool) (from word : ℕ) where
  module _ (h : IsJoined places image set from) (next : NextHit image from (Some word)) (has : (w : ℕ) (p : Place) → slice_get places w ≡ Some p → LiesInWord p word → is_member row w ≡ true) (no_other : (w : ℕ) → is_member row w ≡ true → (p : Place) × (slice_get places w ≡ Some p) × LiesInWord p word) (both : (w : ℕ) → is_member joined w ≡ (is_member set w || is_member row w)) where
    in_set : (w : ℕ) → is_member set w ≡ true → is_member joined w ≡ true
    in_set w is = both w ∙ ap (λ b. b || is_member row w) is

    in_row : (w : ℕ) → is_member row w ≡ true → is_member joined w ≡ true
    in_row w is = both w ∙ ap (λ b. is_member set w || b) is ∙ or_true (is_member set w)
      where
        or_true : (b : Bool) → (b || true) ≡ true
        or_true true = refl
        or_true false = refl

    either : (a b : Bool) → (a || b) ≡ true → (a ≡ true) ⊎ (b ≡ true)
    either true b is = inl refl
    either false b is = inr is

    -- of the words up to this one
    pub join-goes-on : IsJoined places image joined (suc word)
    join-goes-on = record {
      members = λ g l hit w p got lies. elim (cases_lt g from) [
        | inl early ↦ in_set w (h.members g early hit w p got lies)
        | inr late ↦ elim (cases_lt g word) [
          | inl between ↦ absurd (false≢true (sym (next.2 g late between) ∙ hit))
          | inr here ↦ (let same : g ≡ word = omega arith in in_row w (has w p got (subst (λ n. LiesInWord p n) same lies)))
        ]
      ];
      known = λ w is. elim (either (is_member set w) (is_member row w) (sym (both w) ∙ is)) [
        | inl old ↦ h.known w old
        | inr new ↦ (let r = no_other w new in slice_get_within places w r.0 r.1)
      ];
    }

-- no word from this one on is hit
pub join-ends : (places : List Place) (image : ImageView) (set : List Bool) (from : ℕ) → IsJoined places image set from → NextHit image from None → HasWritten places image.hits set
join-ends places image set from h none = record {
  members = λ w p got out word hit lies. (elim (cases_lt word from) [
    | inl early ↦ absurd (false≢true (sym out ∙ h.members word early hit w p got lies))
    | inr late ↦ absurd (false≢true (sym (none word late) ∙ hit))
  ]);
  known = h.known;
}

-- no word from this one on has a byte of the image
pub join-ends-past : (places : List Place) (image : ImageView) (set : List Bool) (from : ℕ) → AreInside places image.bytes → IsJoined places image set from → MAX_IMAGE_BYTES ≤ from → HasWritten places image.hits set
join-ends-past places image set from inside h past = record {
  members = λ w p got out word hit lies. (
      let small = small_word p (length image.bytes) word inside.small (inside.inside w p got) lies in
      absurd (false≢true (sym out ∙ h.members word (omega arith) hit w p got lies))
      );
  known = h.known;
}

-- ---- one word

-- of the one word that is hit, a place that is the only one with a byte in it is the only one that is written
pub lone-of-word : (places : List Place) (image : ImageView) (word n : ℕ) → NextHit image 0 (Some word) → NextHit image (suc word) None → ((w : ℕ) (p : Place) → slice_get places w ≡ Some p → LiesInWord p word → w ≡ n) → IsLoneWritten places image.hits n
lone-of-word places image word n first none alone w p at other g hit lies = elim (cases_lt g word) [
  | inl before ↦ absurd (false≢true (sym (first.2 g (omega arith) before) ∙ hit))
  | inr late ↦ elim (cases_lt word g) [
    | inl after ↦ absurd (false≢true (sym (none g (omega arith)) ∙ hit))
    | inr not_after ↦ (let same : g ≡ word = omega arith in other (alone w p at (subst (λ k. LiesInWord p k) same lies)))
  ]
]

pub lone-of-words : (places : List Place) (image : ImageView) (word : ℕ) (o : Option ℕ) → NextHit image 0 (Some word) → NextHit image (suc word) None → IfSome o (λ n. (w : ℕ) (p : Place) → slice_get places w ≡ Some p → LiesInWord p word → w ≡ n) → IfSome o (λ n. IsLoneWritten places image.hits n)
lone-of-words places image word None first none alone = tt
lone-of-words places image word (Some n) first none alone = lone-of-word places image word n first none alone
