-- The parts of tag names.
use Rattle.std.proofs.Common.{◌≡◌, ℕ, zero, suc, ◌-◌, ◌<◌, ◌≤◌, List, [], ◌∷◌, length, Bool, true, false, refl, arith, subst, ◌∙◌, eqb-true, leb-true, le-leb}
use Rattle.std.specs.Cmp.Derive.{both_true}
use Rattle.std.specs.Prelude.{◌&&◌, ◌==◌, nat_le}
use Rattle.std.specs.List.{list_all}
use Rattle.std.proofs.lemmas.Bool.Decides.{nat_tests}
use Rattle.lgx_num.specs.Name.{is_name, is_name_byte}
use Rattle.lgx_num.proofs.Names.{name_bytes}
use Rattle.spec_base.specs.declared.limits.TheConstants.{MAX_NAME_BYTES, MAX_TAG_NAME_BYTES}
use Rattle.spec_language.proofs.FoundBounds.{and_left, and_right}
use Rattle.spec_base.specs.Pieces.{pieces}
use Rattle.spec_base.proofs.Splits.{some_piece}
use Rattle.spec_language.specs.OperandForm.{is_part, may_lead, is_joined, is_tag_name, are_digits}
use Rattle.lgx_tags.specs.TagNames.{are_parts}
use Rattle.spec_language.proofs.FormsRead.{tag_some}

-- ---- joined parts

parts_three : (q : List ℕ) (ps : List (List ℕ)) → are_parts 3 (q ∷ ps) ≡ (is_part q && nat_le (length ps) 2 && list_all is_part ps)
parts_three q [] = go (is_part q)
  where
    go : (b : Bool) → b ≡ (b && true && true)
    go true = refl
    go false = refl
parts_three q (r ∷ []) = go (is_part q) (is_part r)
  where
    go : (b c : Bool) → (b && c) ≡ (b && true && (c && true))
    go true true = refl
    go true false = refl
    go false c = refl
parts_three q (r ∷ s ∷ []) = go (is_part q) (is_part r) (is_part s)
  where
    go : (b c d : Bool) → (b && (c && d)) ≡ (b && true && (c && (d && true)))
    go true true true = refl
    go true true false = refl
    go true false d = refl
    go false c d = refl
parts_three q (r ∷ s ∷ t ∷ ps) =
    let many : nat_le (length (r ∷ s ∷ t ∷ ps)) 2 ≡ false = grind (arith, nat_tests) in
    rw many (go (is_part q) (is_part r) (is_part s) (list_all is_part (r ∷ s ∷ t ∷ ps)))
  where
    go : (b c d e : Bool) → (b && (c && (d && false))) ≡ (b && false && e)
    go true true true e = refl
    go true true false e = refl
    go true false d e = refl
    go false c d e = refl

pub joined_alone : (text : List ℕ) (ps : List (List ℕ)) → ps ≡ text ∷ [] → is_joined ps ≡ is_name text
joined_alone text ps e = rw e refl

pub joined_parts : (first rest text : List ℕ) → pieces 58 text ≡ first ∷ pieces 58 rest → is_joined (pieces 58 text) ≡ (may_lead first && are_parts 3 (pieces 58 rest))
joined_parts first rest text e =
    let some = some_piece 58 rest in
    rw (e, some.2, parts_three some.0 some.1) (go (may_lead first) (is_part some.0) (nat_le (length some.1) 2) (list_all is_part some.1))
  where
    go : (a b c d : Bool) → (a && b && c && d) ≡ (a && (b && c && d))
    go true b c d = refl
    go false b c d = refl

-- ---- loops over parts

pub parts_alone : (most : ℕ) (text : List ℕ) (ps : List (List ℕ)) → 0 < most → ps ≡ text ∷ [] → are_parts most ps ≡ is_part text
parts_alone zero text ps h e = absurd (omega arith)
parts_alone (suc most) text ps h e = rw e refl

pub parts_more : (most : ℕ) (first rest : List ℕ) (ps : List (List ℕ)) → 0 < most → ps ≡ first ∷ pieces 58 rest → are_parts most ps ≡ (is_part first && are_parts (most - 1) (pieces 58 rest))
parts_more zero first rest ps h e = absurd (omega arith)
parts_more (suc most) first rest ps h e =
    let some = some_piece 58 rest in
    let one : suc most - 1 ≡ most = omega arith in
    rw (e, one, some.2) refl

pub not_true : (b : Bool) → (b ≡ true → false ≡ true) → false ≡ b
not_true true p = p refl
not_true false p = refl

-- ---- digits

-- no tag name is digits
pub no_digits : (w : List ℕ) → are_digits 10 w ≡ true → is_tag_name w ≡ false
no_digits w p = go (is_tag_name w) refl
  where
    go : (b : Bool) → is_tag_name w ≡ b → is_tag_name w ≡ false
    go false e = e
    go true e = absurd (cc (p, (tag_some w e).2))

-- ---- names

no_colon : (c : ℕ) → is_name_byte c ≡ true → (c == 58) ≡ false
no_colon c p = go (c == 58) refl
  where
    go : (b : Bool) → (c == 58) ≡ b → (c == 58) ≡ false
    go false e = e
    go true e = absurd (cc (subst (λ (k : ℕ). is_name_byte k ≡ true) (eqb-true c 58 e) p))

one_part : (w : List ℕ) → list_all is_name_byte w ≡ true → pieces 58 w ≡ w ∷ []
one_part [] p = refl
one_part (c ∷ cs) p = rw (no_colon c (and_left (is_name_byte c) _ p), one_part cs (and_right (is_name_byte c) _ p)) refl

-- a name is a tag name: no colon stands in it
pub named_tag : (w : List ℕ) → is_name w ≡ true → is_tag_name w ≡ true
named_tag w p =
    let short : length w ≤ MAX_NAME_BYTES = leb-true (length w) MAX_NAME_BYTES (and_left (nat_le (length w) MAX_NAME_BYTES) _ p) in
    both_true (le-leb (length w) MAX_TAG_NAME_BYTES (omega arith)) (joined_alone w (pieces 58 w) (one_part w (name_bytes w p)) ∙ p)
