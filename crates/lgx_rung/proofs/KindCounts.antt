-- How many operands an instruction has by the table of operands.
use Rattle.std.proofs.Common.{◌≡◌, ℕ, zero, suc, ◌+◌, ◌-◌, ◌<◌, ◌≤◌, Bool, true, false, if◌then◌else◌, List, [], ◌∷◌, ◌++◌, length, replicate, ℤ, pos, negsuc, Option, Some, None, option_map, refl, sym, ap, ◌∙◌, arith, subst}
use Rattle.std.specs.Prelude.{nat_le, option_and_then}
use Rattle.std.proofs.lemmas.Bool.{leb-true}
use Rattle.std.proofs.lemmas.List.{length-append, length-replicate, append-nil}
use Rattle.spec_base.specs.declared.limits.TheConstants.{MAX_OPERANDS, MAX_PARAMETERS, MAX_BOUND_OPERANDS}
use Rattle.lgx_rung.specs.declared.op.Op.{Op}
use Rattle.lgx_rung.specs.declared.op.Op.TheVariants.{Jsr}
use Rattle.lgx_rung.specs.declared.operands.OperandKind.{OperandKind}
use Rattle.lgx_rung.specs.declared.operands.OperandKind.TheVariants.{IntegerPlace, IntegerOrNumber, RoutineName, ParameterCount}
use Rattle.lgx_rung.specs.OperandTable.{as_count, fixed_kinds, parameters, handed_kinds, Further, NoMore, Parameters, HandedOver, further, further_kinds, operand_kinds}

-- ---- by the table

-- how many may follow the operands that an instruction always has
abbrev most : Further → ℕ
most NoMore = 0
most (Parameters kind) = MAX_PARAMETERS
most HandedOver = 1 + MAX_PARAMETERS + MAX_PARAMETERS

pub few_fixed : (op : Op) → length (fixed_kinds op) ≤ MAX_BOUND_OPERANDS
few_fixed op = leb-true (length (fixed_kinds op)) MAX_BOUND_OPERANDS (test op)
  where
    test : (op : Op) → nat_le (length (fixed_kinds op)) MAX_BOUND_OPERANDS ≡ true
    test Jsr = refl
    test _ = refl

few_with_others : (op : Op) → length (fixed_kinds op) + most (further op) ≤ MAX_OPERANDS
few_with_others op = leb-true (length (fixed_kinds op) + most (further op)) MAX_OPERANDS (test op)
  where
    test : (op : Op) → nat_le (length (fixed_kinds op) + most (further op)) MAX_OPERANDS ≡ true
    test Jsr = refl
    test _ = refl

-- ---- the others

-- as many kinds as operands, and not too many
abbrev AreMany : (given limit : ℕ) → List OperandKind → Type 0
AreMany given limit kinds = (length kinds ≡ given) × (given ≤ limit)

abbrev AreManyIf : (given limit : ℕ) → Option (List OperandKind) → Type 0
AreManyIf given limit kinds = (made : List OperandKind) → kinds ≡ Some made → AreMany given limit made

none_many : (given limit : ℕ) → AreManyIf given limit None
none_many given limit made e = absurd (cc e)

some_many : (given limit : ℕ) (kinds : List OperandKind) → AreMany given limit kinds → AreManyIf given limit (Some kinds)
some_many given limit kinds are made e = let same : kinds ≡ made = cc e in subst (AreMany given limit) same are

-- with others before them
mapped_many : (given limit : ℕ) (before : List OperandKind) (kinds : Option (List OperandKind)) → AreManyIf given limit kinds → AreManyIf (length before + given) (length before + limit) (option_map (λ others. before ++ others) kinds)
mapped_many given limit before None are = none_many (length before + given) (length before + limit)
mapped_many given limit before (Some kinds) are =
    let h = are kinds refl in
    some_many (length before + given) (length before + limit) (before ++ kinds) (length-append before kinds ∙ ap (λ (n : ℕ). length before + n) h.0, omega (arith, h.1))

parameters_many : (kind : OperandKind) (given : ℕ) → AreManyIf given MAX_PARAMETERS (parameters kind given)
parameters_many kind given = go (nat_le given MAX_PARAMETERS) refl
  where
    go : (few : Bool) → nat_le given MAX_PARAMETERS ≡ few → AreManyIf given MAX_PARAMETERS (if few then Some (replicate given kind) else None)
    go true e = some_many given MAX_PARAMETERS (replicate given kind) (length-replicate given kind, leb-true given MAX_PARAMETERS e)
    go false e = none_many given MAX_PARAMETERS

other_many : (given limit given' limit' : ℕ) (kinds : Option (List OperandKind)) → given ≡ given' → limit ≤ limit' → AreManyIf given limit kinds → AreManyIf given' limit' kinds
other_many given limit given' limit' kinds same room are made e =
    let h = are made e in
    (h.0 ∙ same, omega (arith, h.1, same, room))

handed_many : (count : Option ℕ) → ((n : ℕ) → count ≡ Some n → n ≤ MAX_PARAMETERS) → (given : ℕ) → AreManyIf given (MAX_PARAMETERS + MAX_PARAMETERS) (handed_kinds count given)
handed_many (Some n) small given = go (nat_le n given) refl
  where
    go : (enough : Bool) → nat_le n given ≡ enough → AreManyIf given (MAX_PARAMETERS + MAX_PARAMETERS) (if enough then option_map (λ returns. replicate n IntegerOrNumber ++ returns) (parameters IntegerPlace (given - n)) else None)
    go true e =
        let inputs : length (replicate n IntegerOrNumber) ≡ n = length-replicate n IntegerOrNumber in
        let within : n ≤ given = leb-true n given e in
        other_many (length (replicate n IntegerOrNumber) + (given - n)) (length (replicate n IntegerOrNumber) + MAX_PARAMETERS) given (MAX_PARAMETERS + MAX_PARAMETERS) (option_map (λ returns. replicate n IntegerOrNumber ++ returns) (parameters IntegerPlace (given - n)))
        (omega (arith, inputs, within)) (omega (arith, inputs, small n refl))
        (mapped_many (given - n) MAX_PARAMETERS (replicate n IntegerOrNumber) (parameters IntegerPlace (given - n)) (parameters_many IntegerPlace (given - n)))
    go false e = none_many given (MAX_PARAMETERS + MAX_PARAMETERS)
handed_many None small given = go (nat_le given (MAX_PARAMETERS + MAX_PARAMETERS)) refl
  where
    go : (few : Bool) → nat_le given (MAX_PARAMETERS + MAX_PARAMETERS) ≡ few → AreManyIf given (MAX_PARAMETERS + MAX_PARAMETERS) (if few then Some (replicate given IntegerOrNumber) else None)
    go true e = some_many given (MAX_PARAMETERS + MAX_PARAMETERS) (replicate given IntegerOrNumber) (length-replicate given IntegerOrNumber, leb-true given (MAX_PARAMETERS + MAX_PARAMETERS) e)
    go false e = none_many given (MAX_PARAMETERS + MAX_PARAMETERS)

further_many : (f : Further) (count : Option ℕ) → ((n : ℕ) → count ≡ Some n → n ≤ MAX_PARAMETERS) → (given : ℕ) → AreManyIf given (most f) (further_kinds f count given)
further_many NoMore count small zero = some_many 0 0 [] (refl, omega arith)
further_many NoMore count small (suc given) = none_many (suc given) 0
further_many (Parameters kind) count small given = parameters_many kind given
further_many HandedOver count small zero = some_many 0 (most HandedOver) [] (refl, omega arith)
further_many HandedOver count small (suc given) =
    other_many (1 + given) (1 + (MAX_PARAMETERS + MAX_PARAMETERS)) (suc given) (most HandedOver) (option_map (λ kinds. ParameterCount ∷ kinds) (handed_kinds count given)) (omega arith) (omega arith)
    (mapped_many given (MAX_PARAMETERS + MAX_PARAMETERS) (ParameterCount ∷ []) (handed_kinds count given) (handed_many count small given))

-- ---- counts

-- a count is not too great
pub small_count : (number : ℤ) (count : ℕ) → as_count number ≡ Some count → count ≤ MAX_PARAMETERS
small_count (pos n) count e = go (nat_le n MAX_PARAMETERS) refl e
  where
    go : (few : Bool) → nat_le n MAX_PARAMETERS ≡ few → (if few then Some n else None) ≡ Some count → count ≤ MAX_PARAMETERS
    go true small is = let same : n ≡ count = cc is in subst (λ (m : ℕ). m ≤ MAX_PARAMETERS) same (leb-true n MAX_PARAMETERS small)
    go false large is = absurd (cc is)
small_count (negsuc n) count e = absurd (cc e)

small_second : (second : Option ℤ) (count : ℕ) → option_and_then as_count second ≡ Some count → count ≤ MAX_PARAMETERS
small_second (Some number) count e = small_count number count e
small_second None count e = absurd (cc e)

-- ---- all operands

-- an instruction has as many operands as kinds, and not too many
pub kinds_counted : (op : Op) (second : Option ℤ) (given : ℕ) (kinds : List OperandKind) → operand_kinds op second given ≡ Some kinds → (length kinds ≡ given) × (given ≤ MAX_OPERANDS)
kinds_counted op second given kinds e = go (nat_le (length (fixed_kinds op)) given) refl kinds e
  where
    more : Option (List OperandKind)
    more = further_kinds (further op) (option_and_then as_count second) (given - length (fixed_kinds op))

    go : (enough : Bool) → nat_le (length (fixed_kinds op)) given ≡ enough → AreManyIf given MAX_OPERANDS (if enough then option_map (λ others. fixed_kinds op ++ others) more else None)
    go true has =
        let within : length (fixed_kinds op) ≤ given = leb-true (length (fixed_kinds op)) given has in
        other_many (length (fixed_kinds op) + (given - length (fixed_kinds op))) (length (fixed_kinds op) + most (further op)) given MAX_OPERANDS (option_map (λ others. fixed_kinds op ++ others) more)
        (omega (arith, within)) (few_with_others op)
        (mapped_many (given - length (fixed_kinds op)) (most (further op)) (fixed_kinds op) more (further_many (further op) (option_and_then as_count second) (small_second second) (given - length (fixed_kinds op))))
    go false has = none_many given MAX_OPERANDS

-- an instruction that may have no others has those that it always has
pub exactly_fixed : (op : Op) (second : Option ℤ) (given : ℕ) (kinds : List OperandKind) → further op ≡ NoMore → operand_kinds op second given ≡ Some kinds → kinds ≡ fixed_kinds op
exactly_fixed op second given kinds no_more e = go (nat_le (length (fixed_kinds op)) given) (given - length (fixed_kinds op)) (e_with no_more)
  where
    e_with : further op ≡ NoMore → (if nat_le (length (fixed_kinds op)) given then option_map (λ others. fixed_kinds op ++ others) (further_kinds NoMore (option_and_then as_count second) (given - length (fixed_kinds op))) else None) ≡ Some kinds
    e_with is = subst (λ (f : Further). (if nat_le (length (fixed_kinds op)) given then option_map (λ others. fixed_kinds op ++ others) (further_kinds f (option_and_then as_count second) (given - length (fixed_kinds op))) else None) ≡ Some kinds) is e

    go : (enough : Bool) (more : ℕ) → (if enough then option_map (λ others. fixed_kinds op ++ others) (further_kinds NoMore (option_and_then as_count second) more) else None) ≡ Some kinds → kinds ≡ fixed_kinds op
    go true zero is = let same : fixed_kinds op ++ [] ≡ kinds = cc is in sym same ∙ append-nil (fixed_kinds op)
    go true (suc more) is = absurd (cc is)
    go false more is = absurd (cc is)

-- ---- what the second operand tells

-- JSR alone hands over
pub handed_over : (op : Op) → further op ≡ HandedOver → op ≡ Jsr
handed_over Jsr e = refl
handed_over _ e = absurd (cc e)

-- the second operand tells the kinds only after a routine, and only as a count
pub same_kinds : (op : Op) (a b : Option ℤ) (given : ℕ) → (further op ≡ HandedOver → length (fixed_kinds op) < given → option_and_then as_count a ≡ option_and_then as_count b) → operand_kinds op a given ≡ operand_kinds op b given
same_kinds op a b given same = go (nat_le (length (fixed_kinds op)) given) refl
  where
    others : (f : Further) (more : ℕ) → further op ≡ f → given - length (fixed_kinds op) ≡ more → further_kinds f (option_and_then as_count a) more ≡ further_kinds f (option_and_then as_count b) more
    others NoMore zero is count = refl
    others NoMore (suc more) is count = refl
    others (Parameters kind) more is count = refl
    others HandedOver zero is count = refl
    others HandedOver (suc more) is count = ap (λ (c : Option ℕ). further_kinds HandedOver c (suc more)) (same is (omega (arith, count)))

    go : (enough : Bool) → nat_le (length (fixed_kinds op)) given ≡ enough → (if enough then option_map (λ kinds. fixed_kinds op ++ kinds) (further_kinds (further op) (option_and_then as_count a) (given - length (fixed_kinds op))) else None) ≡ (if enough then option_map (λ kinds. fixed_kinds op ++ kinds) (further_kinds (further op) (option_and_then as_count b) (given - length (fixed_kinds op))) else None)
    go true e = ap (option_map (λ kinds. fixed_kinds op ++ kinds)) (others (further op) (given - length (fixed_kinds op)) refl refl)
    go false e = refl

-- more operands than one of a JSR begin with a routine and a count
pub call_begins : (second : Option ℤ) (given : ℕ) (kinds : List OperandKind) → 1 < given → operand_kinds Jsr second given ≡ Some kinds → (others : List OperandKind) × (kinds ≡ RoutineName ∷ ParameterCount ∷ others)
call_begins second given kinds more e = go (nat_le 1 given) (given - 1) refl e
  where
    counted : (handed : Option (List OperandKind)) → option_map (λ others. RoutineName ∷ others) (option_map (λ others. ParameterCount ∷ others) handed) ≡ Some kinds → (others : List OperandKind) × (kinds ≡ RoutineName ∷ ParameterCount ∷ others)
    counted (Some others) is = let same : RoutineName ∷ ParameterCount ∷ others ≡ kinds = cc is in (others, sym same)
    counted None is = absurd (cc is)

    go : (enough : Bool) (rest : ℕ) → given - 1 ≡ rest → (if enough then option_map (λ others. RoutineName ∷ others) (further_kinds HandedOver (option_and_then as_count second) rest) else None) ≡ Some kinds → (others : List OperandKind) × (kinds ≡ RoutineName ∷ ParameterCount ∷ others)
    go true zero none is = absurd (omega (arith, none, more))
    go true (suc rest) some is = counted (handed_kinds (option_and_then as_count second) rest) is
    go false rest some is = absurd (cc is)

-- a count tells itself
count_again : (number : ℤ) (count : ℕ) → as_count number ≡ Some count → as_count (pos count) ≡ Some count
count_again (pos n) count e = go (nat_le n MAX_PARAMETERS) refl e
  where
    go : (few : Bool) → nat_le n MAX_PARAMETERS ≡ few → (if few then Some n else None) ≡ Some count → as_count (pos count) ≡ Some count
    go true small is =
        let same : n ≡ count = cc is in
        subst (λ (m : ℕ). (if nat_le m MAX_PARAMETERS then Some m else None) ≡ Some m) same (ap (λ (few : Bool). if few then Some n else None) small)
    go false large is = absurd (cc is)
count_again (negsuc n) count e = absurd (cc e)

pub told_again : (second : Option ℤ) (count : ℕ) → option_and_then as_count second ≡ Some count → as_count (pos count) ≡ Some count
told_again (Some number) count e = count_again number count e
told_again None count e = absurd (cc e)
