-- What the lists of uses gain: nothing, more and more, and a use at each of some tags.
use Rattle.std.proofs.Common.{◌≡◌, ◌≢◌, ℕ, zero, suc, ◌+◌, ◌<◌, ◌≤◌, Bool, true, false, List, [], ◌∷◌, ◌++◌, length, map, get_or, take, nat_eq, refl, sym, ap, ◌∙◌, subst, append_assoc, arith}
use Rattle.std.specs.Prelude.{◌||◌, cond, if◌then◌else◌, filter, slice_set}
use Rattle.std.specs.List.{IsDistinct, list_any}
use Rattle.std.proofs.lemmas.Bool.{eq-eqb, eqb-true, true≢false}
use Rattle.std.proofs.lemmas.Cmp.{nat_eq_equiv}
use Rattle.std.proofs.lemmas.List.{append-nil, get_or-set_other, get_or-set_same, length-set, map-append, take_all}
use Rattle.std.proofs.lemmas.List.Elements.{filter_more}
use Rattle.std.proofs.lemmas.List.Folds.{list_any_more}
use Rattle.std.proofs.lemmas.Map.Keys.{IsDistinct-tail, apart_from_distinct}
use Rattle.spec_uses.specs.Uses.{Site}
use Rattle.spec_uses.specs.declared.uses.Use.{Use}
use Rattle.lgx_xref.specs.Gains.{Gains, uses_among, uses_at}

-- ---- gains

pub gains_none : (lists : List (List Use)) → Gains lists lists (λ k. [])
gains_none lists = record { size = refl; each = λ k within. sym (append-nil (uses_at lists k)) }

pub gains_more : (a b c : List (List Use)) (f g : ℕ → List Use) → Gains a b f → Gains b c g → Gains a c (λ k. f k ++ g k)
gains_more a b c f g first second = record {
  size = second.size ∙ first.size;
  each = λ k within.
      second.each k (subst (λ n. k < n) (sym first.size) within)
      ∙ ap (λ us. us ++ g k) (first.each k within)
      ∙ append_assoc (uses_at a k) (f k) (g k);
}

pub gains_same : (a b : List (List Use)) (f g : ℕ → List Use) → ((k : ℕ) → k < length a → f k ≡ g k) → Gains a b f → Gains a b g
gains_same a b f g same gains = record {
  size = gains.size;
  each = λ k within. gains.each k within ∙ ap (λ us. uses_at a k ++ us) (same k within);
}

-- ---- a use at some tags, each once

-- the use at the tags that pass a test
abbrev pub if_any : Use → List ℕ → ℕ → List Use
if_any at tags k = if list_any (nat_eq k) tags then at ∷ [] else []

set_at : (lists : List (List Use)) (t : ℕ) (at : Use) (k : ℕ) → k < length lists → (b : Bool) → nat_eq k t ≡ b
    → uses_at (slice_set lists t (uses_at lists t ++ at ∷ [])) k ≡ uses_at lists k ++ (if b then at ∷ [] else [])
set_at lists t at k within true e =
    let same : k ≡ t = eqb-true k t e in
    let there : t < length lists = subst (λ n. n < length lists) same within in
    ap (uses_at (slice_set lists t (uses_at lists t ++ at ∷ []))) same
    ∙ get_or-set_same lists t (uses_at lists t ++ at ∷ []) [] there
    ∙ ap (λ n. uses_at lists n ++ at ∷ []) (sym same)
set_at lists t at k within false e =
    let other : k ≢ t = λ p. true≢false (sym (eq-eqb k t p) ∙ e) in
    get_or-set_other lists t k (uses_at lists t ++ at ∷ []) [] other ∙ sym (append-nil (uses_at lists k))

pushed : (lists new : List (List Use)) (t : ℕ) (at : Use) → new ≡ slice_set lists t (uses_at lists t ++ at ∷ [])
    → Gains lists new (λ k. if nat_eq k t then at ∷ [] else [])
pushed lists new t at is = record {
  size = ap length is ∙ length-set lists t (uses_at lists t ++ at ∷ []);
  each = λ k within. ap (λ l. uses_at l k) is ∙ set_at lists t at k within (nat_eq k t) refl;
}

-- a tag isn't among those before it
fresh : (tags : List ℕ) (i : ℕ) → IsDistinct nat_eq tags → i < length tags → list_any (nat_eq (get_or tags i 0)) (take i tags) ≡ false
fresh [] i distinct h = absurd (omega arith)
fresh (x ∷ xs) zero distinct h = refl
fresh (x ∷ xs) (suc i) distinct h =
    let within : i < length xs = omega arith in
    let first : 0 < suc i = omega arith in
    let apart : nat_eq x (get_or xs i 0) ≡ false = apart_from_distinct nat_eq (x ∷ xs) 0 (suc i) 0 distinct first h in
    let other : nat_eq (get_or xs i 0) x ≡ false = nat_eq_equiv.symm (get_or xs i 0) x ∙ apart in
    ap (λ b. b || list_any (nat_eq (get_or xs i 0)) (take i xs)) other
    ∙ fresh xs i (IsDistinct-tail nat_eq x xs distinct) within

once : (a b : Bool) (at : Use) → (b ≡ true → a ≡ false)
    → (if a then at ∷ [] else []) ++ (if b then at ∷ [] else []) ≡ (if (a || b) then at ∷ [] else [])
once true true at h = absurd (true≢false (h refl))
once true false at h = refl
once false true at h = refl
once false false at h = refl

pub tag_noted : (old lists new : List (List Use)) (tags : List ℕ) (i : ℕ) (at : Use) → IsDistinct nat_eq tags → i < length tags
    → new ≡ slice_set lists (get_or tags i 0) (uses_at lists (get_or tags i 0) ++ at ∷ [])
    → Gains old lists (if_any at (take i tags)) → Gains old new (if_any at (take (i + 1) tags))
tag_noted old lists new tags i at distinct within is gains =
    let t = get_or tags i 0 in
    let both = gains_more old lists new (if_any at (take i tags)) (λ k. if nat_eq k t then at ∷ [] else []) gains (pushed lists new t at is) in
    gains_same old new (λ k. if_any at (take i tags) k ++ (if nat_eq k t then at ∷ [] else [])) (if_any at (take (i + 1) tags))
    (λ k there.
    once (list_any (nat_eq k) (take i tags)) (nat_eq k t) at
    (λ e. ap (λ n. list_any (nat_eq n) (take i tags)) (eqb-true k t e) ∙ fresh tags i distinct within)
    ∙ ap (λ b. if b then at ∷ [] else []) (sym (list_any_more (nat_eq k) tags i 0 within)))
    both

pub tags_noted : (old new : List (List Use)) (tags : List ℕ) (i : ℕ) (at : Use) → length tags ≤ i
    → Gains old new (if_any at (take i tags)) → Gains old new (if_any at tags)
tags_noted old new tags i at past gains = subst (λ ts. Gains old new (if_any at ts)) (take_all i tags past) gains

-- ---- instructions, one after another

chosen : (b : Bool) (s : Site) → (if b then s.at ∷ [] else []) ≡ map (λ s. s.at) (cond b (s ∷ []) [])
chosen true s = refl
chosen false s = refl

pub site_noted : (old lists new : List (List Use)) (test : ℕ → Site → Bool) (sites : List Site) (i : ℕ) (s : Site) (at : Use) (tags : List ℕ)
    → i < length sites → s ≡ get_or sites i s → at ≡ s.at
    → ((k : ℕ) → k < length old → list_any (nat_eq k) tags ≡ test k s)
    → Gains lists new (if_any at tags)
    → Gains old lists (λ k. uses_among (test k) (take i sites)) → Gains old new (λ k. uses_among (test k) (take (i + 1) sites))
site_noted old lists new test sites i s at tags within is place tells noted gains =
    let both = gains_more old lists new (λ k. uses_among (test k) (take i sites)) (if_any at tags) gains noted in
    gains_same old new (λ k. uses_among (test k) (take i sites) ++ if_any at tags k) (λ k. uses_among (test k) (take (i + 1) sites))
    (λ k there.
    let before = filter (test k) (take i sites) in
    ap (λ b. uses_among (test k) (take i sites) ++ (if b then at ∷ [] else [])) (tells k there)
    ∙ ap (λ a. uses_among (test k) (take i sites) ++ (if test k s then a ∷ [] else [])) place
    ∙ ap (λ us. uses_among (test k) (take i sites) ++ us) (chosen (test k s) s)
    ∙ sym (map-append (λ s. s.at) before (cond (test k s) (s ∷ []) []))
    ∙ ap (λ x. map (λ s. s.at) (before ++ cond (test k x) (x ∷ []) [])) is
    ∙ ap (map (λ s. s.at)) (sym (filter_more (test k) sites i s within)))
    both

pub sites_noted : (old new : List (List Use)) (test : ℕ → Site → Bool) (sites : List Site) (i : ℕ) → length sites ≤ i
    → Gains old new (λ k. uses_among (test k) (take i sites)) → Gains old new (λ k. uses_among (test k) sites)
sites_noted old new test sites i past gains =
    subst (λ ss. Gains old new (λ k. uses_among (test k) ss)) (take_all i sites past) gains
