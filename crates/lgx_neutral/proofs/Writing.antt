-- The text that is written element by element and leg by leg.
use Rattle.std.proofs.Common.{◌≡◌, ℕ, ◌+◌, ◌-◌, ◌<◌, ◌≤◌, List, [], ◌∷◌, ◌++◌, length, get_or, take, drop, refl, ap, sym, subst, ◌∙◌, append_assoc, arith}
use Rattle.std.proofs.lemmas.List.{append-nil, drop_more, drop_all, take_all}
use Rattle.lgx_rung.specs.declared.rung.Element.{Element}
use Rattle.lgx_rung.specs.declared.rung.Element.TheVariants.{Ins, Fork}
use Rattle.lgx_rung.specs.Elements.{tree_of}
use Rattle.lgx_rung.specs.Sizes.{tree_size, list_size}
use Rattle.lgx_rung.specs.Text.{canon, canon_token, canon_tokens, list_tokens, leg_tokens, operands}
use Rattle.lgx_rung.specs.Tokens.{Token, Mnemonic, CloseFork, OpenParen, CloseParen, Semicolon}
use Rattle.lgx_rung.specs.Tree.{end, fork_of, legs_of, Source}
use Rattle.lgx_rung.proofs.Walks.{leg_falls}
use Rattle.lgx_neutral.specs.Writing.{element_tokens, legs_tokens}

canon-append : (xs ys : List Token) → canon_tokens (xs ++ ys) ≡ canon_tokens xs ++ canon_tokens ys
canon-append [] ys = refl
canon-append (x ∷ xs) ys = ap (λ t. canon_token x ++ t) (canon-append xs ys) ∙ sym (append_assoc (canon_token x) (canon_tokens xs) (canon_tokens ys))

-- ---- a rung, an instruction, a fork

pub rung_text : (r : Source) → canon_tokens (list_tokens r) ++ 59 ∷ [] ≡ canon r
rung_text r = sym (canon-append (list_tokens r) (Semicolon ∷ []))

pub instruction_text : (old name : List ℕ) (texts : List (List ℕ))
    → (((old ++ name) ++ 40 ∷ []) ++ canon_tokens (operands texts)) ++ 41 ∷ [] ≡ old ++ (name ++ 40 ∷ canon_tokens (operands texts ++ CloseParen ∷ []))
instruction_text old name texts = rw (canon-append (operands texts) (CloseParen ∷ [])) (simp append_assoc)

pub fork_text : (old : List ℕ) (legs : List Source)
    → ((old ++ 91 ∷ []) ++ canon_tokens (legs_tokens legs)) ++ 93 ∷ [] ≡ old ++ canon_tokens (list_tokens (fork_of legs end))
fork_text old [] = simp (append_assoc, append-nil)
fork_text old (t ∷ ts) =
    let one : List ℕ = canon_tokens (list_tokens t) in
    let more : List ℕ = canon_tokens (leg_tokens (legs_of ts)) in
    let order : ((old ++ 91 ∷ []) ++ (one ++ more)) ++ 93 ∷ [] ≡ old ++ 91 ∷ (one ++ (more ++ 93 ∷ [])) = simp append_assoc in
    ap (λ x. ((old ++ 91 ∷ []) ++ x) ++ 93 ∷ []) (canon-append (list_tokens t) (leg_tokens (legs_of ts)))
    ∙ order
    ∙ ap (λ x. old ++ 91 ∷ x) (sym (
    canon-append (list_tokens t) (leg_tokens (legs_of ts) ++ CloseFork ∷ [])
    ∙ ap (λ x. canon_tokens (list_tokens t) ++ x) (canon-append (leg_tokens (legs_of ts)) (CloseFork ∷ []))))

-- ---- element by element

element_first : (e : Element) (es : List Element) → list_tokens (tree_of (e ∷ es)) ≡ element_tokens e ++ list_tokens (tree_of es)
element_first (Ins op texts) es = ap (λ x. Mnemonic op ∷ OpenParen ∷ x) (sym (append_assoc (operands texts) (CloseParen ∷ []) (list_tokens (tree_of es))))
element_first (Fork []) es = refl
element_first (Fork (t ∷ ts)) es = simp append_assoc

pub element_written : (es : List Element) (i : ℕ) (e : Element) (old now : List ℕ) → i < length es → e ≡ get_or es i e → now ≡ old ++ canon_tokens (element_tokens e)
    → now ++ canon_tokens (list_tokens (tree_of (drop (i + 1) es))) ≡ old ++ canon_tokens (list_tokens (tree_of (drop i es)))
element_written es i e old now h is w =
    let rest : List Element = drop (i + 1) es in
    ap (λ x. x ++ canon_tokens (list_tokens (tree_of rest))) w
    ∙ append_assoc old (canon_tokens (element_tokens e)) (canon_tokens (list_tokens (tree_of rest)))
    ∙ ap (λ x. old ++ x) (sym (
    ap (λ x. canon_tokens (list_tokens (tree_of x))) (drop_more es i e h ∙ ap (λ x. x ∷ rest) (sym is))
    ∙ ap canon_tokens (element_first e rest)
    ∙ canon-append (element_tokens e) (list_tokens (tree_of rest))))

pub list_written : (es : List Element) (i : ℕ) (r : Source) (old now : List ℕ) → tree_of es ≡ r → length es ≤ i
    → now ++ canon_tokens (list_tokens (tree_of (drop i es))) ≡ old ++ canon_tokens (list_tokens r) → now ≡ old ++ canon_tokens (list_tokens r)
list_written es i r old now e h w =
    sym (append-nil now) ∙ ap (λ x. now ++ canon_tokens (list_tokens (tree_of x))) (sym (drop_all i es h)) ∙ w

-- ---- leg by leg

abbrev pub others_of : List Source → List Source
others_of legs = take (length legs - 1) (drop 1 legs)

others_are : (t : Source) (ts : List Source) → others_of (t ∷ ts) ≡ ts
others_are t ts = take_all (length (t ∷ ts) - 1) ts (omega arith)

pub leg_written : (others : List Source) (i : ℕ) (t : Source) (old now : List ℕ) → i < length others → t ≡ get_or others i t → now ≡ (old ++ 44 ∷ []) ++ canon_tokens (list_tokens t)
    → now ++ canon_tokens (leg_tokens (legs_of (drop (i + 1) others))) ≡ old ++ canon_tokens (leg_tokens (legs_of (drop i others)))
leg_written others i t old now h is w =
    let rest : List Source = drop (i + 1) others in
    let one : List ℕ = canon_tokens (list_tokens t) in
    let more : List ℕ = canon_tokens (leg_tokens (legs_of rest)) in
    let order : ((old ++ 44 ∷ []) ++ one) ++ more ≡ old ++ 44 ∷ (one ++ more) = simp append_assoc in
    ap (λ x. x ++ more) w
    ∙ order
    ∙ ap (λ x. old ++ x) (sym (
    ap (λ x. canon_tokens (leg_tokens (legs_of x))) (drop_more others i t h ∙ ap (λ x. x ∷ rest) (sym is))
    ∙ ap (λ x. 44 ∷ x) (canon-append (list_tokens t) (leg_tokens (legs_of rest)))))

pub legs_written : (legs : List Source) (i : ℕ) (first : Source) (old begun now : List ℕ) → 0 < length legs → first ≡ get_or legs 0 first → length (others_of legs) ≤ i
    → begun ≡ old ++ canon_tokens (list_tokens first)
    → now ++ canon_tokens (leg_tokens (legs_of (drop i (others_of legs)))) ≡ begun ++ canon_tokens (leg_tokens (legs_of (others_of legs)))
    → now ≡ old ++ canon_tokens (legs_tokens legs)
legs_written [] i first old begun now some is h b w = absurd (omega arith)
legs_written (t ∷ ts) i first old begun now some is h b w =
    sym (append-nil now)
    ∙ ap (λ x. now ++ canon_tokens (leg_tokens (legs_of x))) (sym (drop_all i (others_of (t ∷ ts)) h))
    ∙ w
    ∙ ap (λ x. begun ++ canon_tokens (leg_tokens (legs_of x))) (others_are t ts)
    ∙ ap (λ x. x ++ canon_tokens (leg_tokens (legs_of ts))) (b ∙ ap (λ x. old ++ canon_tokens (list_tokens x)) is)
    ∙ append_assoc old (canon_tokens (list_tokens t)) (canon_tokens (leg_tokens (legs_of ts)))
    ∙ ap (λ x. old ++ x) (sym (canon-append (list_tokens t) (leg_tokens (legs_of ts))))

-- ---- what falls

pub first_of_legs : (legs : List Source) (t : Source) → 0 < length legs → t ≡ get_or legs 0 t → tree_size t < list_size legs
first_of_legs legs t h is = subst (λ x. tree_size x < list_size legs) (sym is) (leg_falls legs 0 t h)

pub other_of_legs : (legs : List Source) (i : ℕ) (t : Source) → i < length (others_of legs) → t ≡ get_or (others_of legs) i t → tree_size t < list_size legs
other_of_legs [] i t h is = absurd (omega arith)
other_of_legs (u ∷ us) i t h is =
    let here : i < length us = subst (λ x. i < length x) (others_are u us) h in
    let there : t ≡ get_or us i t = is ∙ ap (λ x. get_or x i t) (others_are u us) in
    let falls : tree_size t < list_size us = subst (λ x. tree_size x < list_size us) (sym there) (leg_falls us i t here) in
    omega arith
