-- Operands that are joined, counted, and parted again.
use Rattle.std.proofs.Common.{◌≡◌, ◌≢◌, ℕ, ◌+◌, ◌<◌, Bool, true, false, nat_eq, List, [], ◌∷◌, ◌++◌, length, refl, ap, sym, ◌∙◌, subst, IsTrue, arith, append_assoc}
use Rattle.std.specs.List.{list_all}
use Rattle.std.proofs.lemmas.Bool.Decides.{nat_tests}
use Rattle.std.proofs.lemmas.Bool.{and_from, and_parts, eqb-true}
use Rattle.std.proofs.lemmas.List.Folds.{list_all-append}
use Rattle.spec_base.specs.Pieces.{pieces, cut}
use Rattle.spec_base.proofs.Splits.{some_piece}
use Rattle.lgx_rung.specs.Joined.{operands_in}
use Rattle.lgx_rung.specs.Text.{canon_tokens, operands, more_operands}
use Rattle.lgx_rung.specs.Tokens.{is_operand, is_operand_byte}

-- ---- a byte more

at_comma : (c : ℕ) (cs : List ℕ) → c ≡ 44 → pieces 44 (c ∷ cs) ≡ [] ∷ pieces 44 cs
at_comma c cs e = grind (arith, nat_tests)

past : (c : ℕ) (cs : List ℕ) → c ≢ 44 → pieces 44 (c ∷ cs) ≡ cut false c (pieces 44 cs)
past c cs e = grind (arith, nat_tests)

-- ---- how many

pub comma_counted : (c : ℕ) (cs : List ℕ) → c ≡ 44 → length (pieces 44 (c ∷ cs)) ≡ length (pieces 44 cs) + 1
comma_counted c cs e = omega (arith, ap length (at_comma c cs e))

cut_length : (c : ℕ) (p : List ℕ) (ps qs : List (List ℕ)) → qs ≡ p ∷ ps → length (cut false c qs) ≡ length qs
cut_length c p ps qs e = subst (λ x. length (cut false c x) ≡ length x) (sym e) refl

pub other_counted : (c : ℕ) (cs : List ℕ) → c ≢ 44 → length (pieces 44 (c ∷ cs)) ≡ length (pieces 44 cs)
other_counted c cs e =
    let s = some_piece 44 cs in
    ap length (past c cs e) ∙ cut_length c s.0 s.1 (pieces 44 cs) s.2

pub some_joined : (bs : List ℕ) → 0 < length bs → operands_in bs ≡ pieces 44 bs
some_joined [] h = absurd (omega arith)
some_joined (b ∷ bs) h = refl

-- ---- an operand more

cut_more : (b : Bool) (c : ℕ) (p : List ℕ) (ps qs : List (List ℕ)) → cut b c ((p ∷ ps) ++ qs) ≡ cut b c (p ∷ ps) ++ qs
cut_more true c p ps qs = refl
cut_more false c p ps qs = refl

pieces_joined : (a b : List ℕ) → pieces 44 (a ++ 44 ∷ b) ≡ pieces 44 a ++ pieces 44 b
pieces_joined [] b = refl
pieces_joined (c ∷ cs) b =
    let s = some_piece 44 cs in
    ap (cut (nat_eq c 44) c) (pieces_joined cs b ∙ ap (λ x. x ++ pieces 44 b) s.2)
    ∙ cut_more (nat_eq c 44) c s.0 s.1 (pieces 44 b)
    ∙ ap (λ x. cut (nat_eq c 44) c x ++ pieces 44 b) (sym s.2)

no_comma : (b : ℕ) → is_operand_byte b ≡ true → b ≢ 44
no_comma b h e = let f : is_operand_byte 44 ≡ true = subst (λ x. is_operand_byte x ≡ true) e h in cc

pieces_alone : (bs : List ℕ) → list_all is_operand_byte bs ≡ true → pieces 44 bs ≡ bs ∷ []
pieces_alone [] h = refl
pieces_alone (b ∷ bs) h =
    let both = and_parts (is_operand_byte b) (list_all is_operand_byte bs) h in
    past b bs (no_comma b both.0) ∙ ap (cut false b) (pieces_alone bs both.1)

operand_alone : (text : List ℕ) → IsTrue (is_operand text) → operands_in text ≡ text ∷ []
operand_alone [] h = cc
operand_alone (b ∷ bs) h = pieces_alone (b ∷ bs) h

-- the joined text after another operand
abbrev pub with_operand : List ℕ → List ℕ → List ℕ
with_operand [] text = text
with_operand (b ∷ bs) text = (b ∷ bs) ++ 44 ∷ text

pub with_some : (bs text : List ℕ) → 0 < length bs → (bs ++ 44 ∷ []) ++ text ≡ with_operand bs text
with_some [] text h = absurd (omega arith)
with_some (b ∷ bs) text h = append_assoc (b ∷ bs) (44 ∷ []) text

pub with_none : (bs text : List ℕ) → length bs ≡ 0 → bs ++ text ≡ with_operand bs text
with_none [] text h = refl
with_none (b ∷ bs) text h = absurd (omega arith)

operand_pieces : (text : List ℕ) → IsTrue (is_operand text) → pieces 44 text ≡ text ∷ []
operand_pieces [] h = cc
operand_pieces (b ∷ bs) h = pieces_alone (b ∷ bs) h

pub operand_added : (bs text : List ℕ) → IsTrue (is_operand text) → operands_in (with_operand bs text) ≡ operands_in bs ++ text ∷ []
operand_added [] text h = operand_alone text h
operand_added (b ∷ bs) text h = pieces_joined (b ∷ bs) text ∙ ap (λ x. pieces 44 (b ∷ bs) ++ x) (operand_pieces text h)

pub operands_kept : (bs text : List ℕ) → IsTrue (list_all is_operand (operands_in bs)) → IsTrue (is_operand text) → IsTrue (list_all is_operand (operands_in (with_operand bs text)))
operands_kept bs text all h =
    ap (list_all is_operand) (operand_added bs text h)
    ∙ list_all-append is_operand (operands_in bs) (text ∷ [])
    ∙ and_from (list_all is_operand (operands_in bs)) (list_all is_operand (text ∷ [])) all (and_from (is_operand text) true h refl)

-- ---- the canonical text

cut_written : (b : Bool) (c : ℕ) (p : List ℕ) (ps : List (List ℕ)) → nat_eq c 44 ≡ b → canon_tokens (operands (cut b c (p ∷ ps))) ≡ c ∷ canon_tokens (operands (p ∷ ps))
cut_written true c p ps e = ap (λ x. x ∷ (p ++ canon_tokens (more_operands ps))) (sym (eqb-true c 44 e))
cut_written false c p ps e = refl

pieces_written : (bs : List ℕ) → canon_tokens (operands (pieces 44 bs)) ≡ bs
pieces_written [] = refl
pieces_written (c ∷ cs) =
    let s = some_piece 44 cs in
    ap (λ x. canon_tokens (operands (cut (nat_eq c 44) c x))) s.2
    ∙ cut_written (nat_eq c 44) c s.0 s.1 refl
    ∙ ap (λ x. c ∷ canon_tokens (operands x)) (sym s.2)
    ∙ ap (λ x. c ∷ x) (pieces_written cs)

pub joined_written : (bs : List ℕ) → canon_tokens (operands (operands_in bs)) ≡ bs
joined_written [] = refl
joined_written (b ∷ bs) = pieces_written (b ∷ bs)
