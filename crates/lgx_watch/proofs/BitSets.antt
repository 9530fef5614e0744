-- Words as sets of numbers.
use Rattle.std.proofs.Common.{◌≡◌, ℕ, zero, suc, ◌/◌, ◌%◌, ◌<◌, ◌≤◌, ◌||◌, inl, inr, false, List, length, get_or, eqb, max, bit_or, refl, sym, ap, ◌∙◌, arith}
use Rattle.std.specs.Int.{bit_at}
use Rattle.std.proofs.lemmas.Bool.{cases_lt}
use Rattle.std.proofs.lemmas.Nat.Bits.{bit_at_or}
use Rattle.lgx_image.specs.Words.{bit_of_words, marks_of}
use Rattle.lgx_image.proofs.Words.{marks_of-at, marks_of-past, bit_past}
use Rattle.lgx_watch.specs.declared.bits.TheConstants.{MAX_WATCHES, WORDS}
use Rattle.lgx_watch.specs.Watches.{is_member}

-- a bit of either
either : (a b : ℕ) → a < 2 → b < 2 → eqb (max a b) 1 ≡ (eqb a 1 || eqb b 1)
either zero zero _ _ = refl
either zero (suc zero) _ _ = refl
either zero (suc (suc b)) _ over = absurd (omega (arith, over))
either (suc zero) zero _ _ = refl
either (suc zero) (suc zero) _ _ = refl
either (suc zero) (suc (suc b)) _ over = absurd (omega (arith, over))
either (suc (suc a)) b over _ = absurd (omega (arith, over))

-- words that are joined one by one have the bits of either
pub bits_joined : (old more new : List ℕ) → length old ≡ WORDS → length more ≡ WORDS → length new ≡ WORDS → ((k : ℕ) → k < WORDS → get_or new k 0 ≡ bit_or (get_or old k 0) (get_or more k 0)) → (k : ℕ) → bit_of_words new k ≡ (bit_of_words old k || bit_of_words more k)
bits_joined old more new n m l joined k = elim (cases_lt (k / 64) WORDS) [
  | inl within ↦
      let a = get_or old (k / 64) 0 in
      let b = get_or more (k / 64) 0 in
      ap (λ word. eqb (bit_at word (k % 64)) 1) (joined (k / 64) within) ∙ ap (λ x. eqb x 1) (bit_at_or a b (k % 64)) ∙ either (bit_at a (k % 64)) (bit_at b (k % 64)) (omega arith) (omega arith)
  | inr past ↦ bit_past new k (omega arith) ∙ sym (ap (λ x. x || bit_of_words more k) (bit_past old k (omega arith)) ∙ bit_past more k (omega arith))
]

-- ---- as sets

pub member-past : (words : List ℕ) (w : ℕ) → MAX_WATCHES ≤ w → is_member (marks_of words MAX_WATCHES) w ≡ false
member-past words w past = marks_of-past words MAX_WATCHES w past

pub member-within : (words : List ℕ) (w : ℕ) → w < MAX_WATCHES → is_member (marks_of words MAX_WATCHES) w ≡ bit_of_words words w
member-within words w within = marks_of-at words MAX_WATCHES w within

pub no_member : (words : List ℕ) → ((k : ℕ) → bit_of_words words k ≡ false) → (w : ℕ) → is_member (marks_of words MAX_WATCHES) w ≡ false
no_member words none w = elim (cases_lt w MAX_WATCHES) [ inl within ↦ member-within words w within ∙ none w | inr past ↦ member-past words w past ]

pub members_joined : (old more new : List ℕ) → ((k : ℕ) → bit_of_words new k ≡ (bit_of_words old k || bit_of_words more k)) → (w : ℕ) → is_member (marks_of new MAX_WATCHES) w ≡ (is_member (marks_of old MAX_WATCHES) w || is_member (marks_of more MAX_WATCHES) w)
members_joined old more new joined w = elim (cases_lt w MAX_WATCHES) [
  | inl within ↦ member-within new w within ∙ joined w ∙ sym (ap (λ x. x || is_member (marks_of more MAX_WATCHES) w) (member-within old w within) ∙ ap (λ x. bit_of_words old w || x) (member-within more w within))
  | inr past ↦ member-past new w past ∙ sym (ap (λ x. x || is_member (marks_of more MAX_WATCHES) w) (member-past old w past) ∙ member-past more w past)
]
