-- The bits of operands, one operand after another.
use Rattle.std.proofs.Common.{◌≡◌, ℕ, ◌+◌, ◌<◌, ◌≤◌, Bool, true, false, List, [], ◌∷◌, ◌++◌, length, map, get_or, drop, take, refl, sym, ap, ◌∙◌, append_assoc}
use Rattle.std.specs.Prelude.{cond, if◌then◌else◌, filter_map, slice_get, Some}
use Rattle.std.proofs.lemmas.List.{drop_more, drop_all, take_more, map-append}
use Rattle.std.proofs.lemmas.List.Elements.{filter_map-append}
use Rattle.std.proofs.lemmas.Option.{get_or_from_slice_get, slice_get_within}
use Rattle.lgx_num.specs.declared.place.Operand.{Operand}
use Rattle.lgx_rung.specs.declared.operands.OperandKind.{OperandKind}
use Rattle.spec_uses.specs.Written.{those_of, path_told, first_bits}

first_bits_cons : (o : Operand) (os : List Operand) → first_bits (o ∷ os) ≡ first_bits (o ∷ []) ++ first_bits os
first_bits_cons o os =
    ap (map (λ p. p.at)) (filter_map-append path_told (o ∷ []) os)
    ∙ map-append (λ p. p.at) (filter_map path_told (o ∷ [])) (filter_map path_told os)

-- ---- one operand on

none_left : (test : OperandKind → Bool) (kinds : List OperandKind) → those_of test kinds [] ≡ []
none_left test [] = refl
none_left test (kind ∷ kinds) = refl

-- past the operands none is left
pub past_operands : (test : OperandKind → Bool) (kinds : List OperandKind) (os : List Operand) (i : ℕ) → length os ≤ i
    → those_of test (drop i kinds) (drop i os) ≡ []
past_operands test kinds os i past = ap (those_of test (drop i kinds)) (drop_all i os past) ∙ none_left test (drop i kinds)

wanted_first : (b : Bool) (o : Operand) (rest : List Operand)
    → (if b then first_bits (o ∷ []) else []) ++ first_bits rest ≡ first_bits (cond b (o ∷ rest) rest)
wanted_first true o rest = sym (first_bits_cons o rest)
wanted_first false o rest = refl

-- the next operand's bit, if it is wanted, and those that are left
pub kind_on : (test : OperandKind → Bool) (kinds : List OperandKind) (os : List Operand) (i : ℕ) (d : OperandKind) (o : Operand)
    (wanted : Bool) (bits new : List ℕ)
    → i < length kinds → i < length os → o ≡ get_or os i o → wanted ≡ test (get_or kinds i d)
    → new ≡ bits ++ (if wanted then first_bits (o ∷ []) else [])
    → new ++ first_bits (those_of test (drop (i + 1) kinds) (drop (i + 1) os)) ≡ bits ++ first_bits (those_of test (drop i kinds) (drop i os))
kind_on test kinds os i d o wanted bits new within there is chosen added =
    let rest = those_of test (drop (i + 1) kinds) (drop (i + 1) os) in
    let next : drop i os ≡ o ∷ drop (i + 1) os = drop_more os i o there ∙ ap (λ y. y ∷ drop (i + 1) os) (sym is) in
    let here : those_of test (drop i kinds) (drop i os) ≡ cond (test (get_or kinds i d)) (o ∷ rest) rest =
    ap (λ ks. those_of test ks (drop i os)) (drop_more kinds i d within)
    ∙ ap (those_of test (get_or kinds i d ∷ drop (i + 1) kinds)) next in
    ap (λ bs. bs ++ first_bits rest) added
    ∙ append_assoc bits (if wanted then first_bits (o ∷ []) else []) (first_bits rest)
    ∙ ap (λ bs. bits ++ bs) (wanted_first wanted o rest)
    ∙ ap (λ b. bits ++ first_bits (cond b (o ∷ rest) rest)) chosen
    ∙ ap (λ os. bits ++ first_bits os) (sym here)

-- ---- one element more

pub take_there : {A : Type 0} (xs : List A) (i : ℕ) (x : A) → slice_get xs i ≡ Some x → take (i + 1) xs ≡ take i xs ++ x ∷ []
take_there xs i x is =
    take_more xs i x (slice_get_within xs i x is) ∙ ap (λ y. take i xs ++ y ∷ []) (get_or_from_slice_get xs i x x is)
