-- The tags that have some bits, one bit more.
use Rattle.std.proofs.Common.{◌≡◌, ℕ, ◌+◌, ◌<◌, ◌≤◌, Bool, true, false, List, [], ◌∷◌, ◌++◌, length, get_or, take, nat_eq, refl, sym, ap, ◌∙◌, subst, append_assoc}
use Rattle.std.specs.Prelude.{◌||◌, cond, Some}
use Rattle.std.specs.List.{IsDistinct, list_any}
use Rattle.std.proofs.lemmas.Bool.{eqb-true}
use Rattle.std.proofs.lemmas.Cmp.{nat_eq_equiv}
use Rattle.std.proofs.lemmas.List.{take_all, take_more}
use Rattle.std.proofs.lemmas.List.Folds.{list_any-append}
use Rattle.std.proofs.lemmas.Map.Keys.{IsDistinct-push}
use Rattle.lgx_rung.specs.declared.op.Op.{Op}
use Rattle.lgx_rung.specs.declared.op.Op.TheVariants.{Ret}
use Rattle.spec_language.specs.declared.span.TagSpan.{TagSpan}
use Rattle.spec_uses.specs.Uses.{holds_bit, with_returns}
use Rattle.lgx_xref.specs.Apart.{IsTagWith, span_in}
use Rattle.lgx_xref.specs.TagSets.{AreTagsOf, with_tag}

or_comm : (a b : Bool) → (a || b) ≡ (b || a)
or_comm true true = refl
or_comm true false = refl
or_comm false true = refl
or_comm false false = refl

or_none : (b : Bool) → (b || false) ≡ b
or_none true = refl
or_none false = refl

any_push : (test : ℕ → Bool) (xs : List ℕ) (x : ℕ) → list_any test (xs ++ x ∷ []) ≡ (list_any test xs || test x)
any_push test xs x = list_any-append test xs (x ∷ []) ∙ ap (λ b. list_any test xs || b) (or_none (test x))

absorb : (a b : Bool) → (b ≡ true → a ≡ true) → a ≡ (a || b)
absorb true b h = refl
absorb false true h = h refl
absorb false false h = refl

-- a tag that is there already adds nothing to the tests
there_already : (k tag : ℕ) (tags : List ℕ) → list_any (nat_eq tag) tags ≡ true → list_any (nat_eq k) tags ≡ (list_any (nat_eq k) tags || nat_eq k tag)
there_already k tag tags there =
    absorb (list_any (nat_eq k) tags) (nat_eq k tag) (λ h. ap (λ n. list_any (nat_eq n) tags) (eqb-true k tag h) ∙ there)

with_any : (k tag : ℕ) (tags : List ℕ) → list_any (nat_eq k) (with_tag tags tag) ≡ (list_any (nat_eq k) tags || nat_eq k tag)
with_any k tag tags = by (list_any (nat_eq tag) tags) refl
  where
    by : (b : Bool) → list_any (nat_eq tag) tags ≡ b → list_any (nat_eq k) (cond b tags (tags ++ tag ∷ [])) ≡ (list_any (nat_eq k) tags || nat_eq k tag)
    by true e = there_already k tag tags e
    by false e = any_push (nat_eq k) tags tag

pub with_distinct : (tags : List ℕ) (tag : ℕ) → IsDistinct nat_eq tags → list_any (nat_eq tag) tags ≡ false → IsDistinct nat_eq (tags ++ tag ∷ [])
with_distinct tags tag distinct new = IsDistinct-push nat_eq_equiv tags tag distinct new

pub tag_added : (spans : List TagSpan) (bit tag : ℕ) (before tags : List ℕ) → IsTagWith spans bit (Some tag)
    → AreTagsOf spans before tags → AreTagsOf spans (before ++ bit ∷ []) (with_tag tags tag)
tag_added spans bit tag before tags one all k within =
    with_any k tag tags
    ∙ ap (λ b. b || nat_eq k tag) (all k within)
    ∙ ap (λ b. list_any (holds_bit (span_in spans k)) before || b) (sym (one.has k within))
    ∙ sym (any_push (holds_bit (span_in spans k)) before bit)

-- as many bits as were passed, one more, and all
pub bit_more : (spans : List TagSpan) (before bits tags : List ℕ) (i : ℕ) → i < length bits
    → AreTagsOf spans ((before ++ take i bits) ++ get_or bits i 0 ∷ []) tags → AreTagsOf spans (before ++ take (i + 1) bits) tags
bit_more spans before bits tags i within all =
    let more : (before ++ take i bits) ++ get_or bits i 0 ∷ [] ≡ before ++ take (i + 1) bits =
    append_assoc before (take i bits) (get_or bits i 0 ∷ []) ∙ ap (λ xs. before ++ xs) (sym (take_more bits i 0 within)) in
    subst (λ bs. AreTagsOf spans bs tags) more all

pub bits_all : (spans : List TagSpan) (before bits tags : List ℕ) (i : ℕ) → length bits ≤ i
    → AreTagsOf spans (before ++ take i bits) tags → AreTagsOf spans (before ++ bits) tags
bits_all spans before bits tags i past all = subst (λ bs. AreTagsOf spans (before ++ bs) tags) (take_all i bits past) all

-- no tag
pub none_distinct : (tags : List ℕ) → tags ≡ [] → IsDistinct nat_eq tags
unfolding IsDistinct
none_distinct tags is = let P : List ℕ → Type 0 = λ ts. IsDistinct nat_eq ts in subst P (sym is) tt

pub none_of_none : (spans : List TagSpan) (tags : List ℕ) → tags ≡ [] → AreTagsOf spans [] tags
none_of_none spans tags is k within = ap (list_any (nat_eq k)) is

pub swapped : (spans : List TagSpan) (xs ys tags : List ℕ) → AreTagsOf spans (xs ++ ys) tags → AreTagsOf spans (ys ++ xs) tags
swapped spans xs ys tags all k within =
    all k within
    ∙ list_any-append (holds_bit (span_in spans k)) xs ys
    ∙ or_comm (list_any (holds_bit (span_in spans k)) xs) (list_any (holds_bit (span_in spans k)) ys)
    ∙ sym (list_any-append (holds_bit (span_in spans k)) ys xs)

-- only a RET writes its routine's returns
pub nothing_beside : (op : Op) (bits : List ℕ) → (op ≡ Ret → ⊥) → with_returns op bits ≡ []
nothing_beside Ret bits other = absurd (other refl)
nothing_beside _ bits other = refl
