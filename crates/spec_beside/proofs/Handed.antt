-- The places at which an SBR stores, and those at which a JSR wants returns, miss every byte that their written operands miss.
use Rattle.std.specs.Prelude.{nat_le, unwrap_or}
use Rattle.std.specs.List.{AllByRecursion as Each}
use Rattle.std.proofs.Common.{◌≡◌, ℕ, zero, suc, ◌-◌, ◌⊎◌, inl, inr, Bool, true, false, if◌then◌else◌, List, [], ◌∷◌, ◌++◌, length, map, replicate, drop, Option, Some, None, option_map, sym, ap, ◌∙◌, subst, arith}
use Rattle.spec_base.specs.declared.limits.TheConstants.{MAX_PARAMETERS}
use Rattle.lgx_num.specs.declared.place.Operand.{Operand}
use Rattle.lgx_num.specs.declared.place.Operand.TheVariants as operand
use Rattle.lgx_num.specs.declared.place.Place.{Place}
use Rattle.lgx_rung.specs.declared.op.Op.TheVariants.{Jsr, Sbr}
use Rattle.lgx_rung.specs.declared.operands.OperandKind.{OperandKind}
use Rattle.lgx_rung.specs.declared.operands.OperandKind.TheVariants.{IntegerPlace, IntegerOrNumber, ParameterCount, RoutineName}
use Rattle.lgx_rung.specs.OperandTable.{HandedOver, further_kinds}
use Rattle.spec_scan.specs.declared.bound.Arg.{Arg}
use Rattle.spec_scan.specs.declared.bound.Arg.TheVariants as bound
use Rattle.spec_scan.specs.Arguments.{arg, bind, bind_one, place_of}
use Rattle.spec_scan.specs.Fits.{AllFit, FitSome, IsCell, IsRoutine, OperandsFit}
use Rattle.spec_scan.specs.Parameters.{count_told, input_count, returns_of}
use Rattle.spec_scan.proofs.CallOperands.{IsCounted, call_operands, entry_operands}
use Rattle.spec_scan.proofs.KeptKinds.{cell_kept, some_head}
use Rattle.spec_uses.specs.Written.{is_written, those_of}
use Rattle.spec_beside.specs.Misses.{Misses, PlaceMisses, WritesBeside}
use Rattle.spec_beside.proofs.Beside.{misses_kept, place_misses}

abbrev pub PlacesMiss : ℕ → List Place → Type 0
PlacesMiss b places = Each (PlaceMisses b) places

-- of operands of these kinds, those that are written
abbrev Written : ℕ → List OperandKind → List Operand → Type 0
Written b kinds operands = Each (Misses b) (those_of is_written kinds operands)

abbrev WrittenOf : ℕ → Option (List OperandKind) → List Operand → Type 0
WrittenOf b kinds operands = Written b (unwrap_or kinds []) operands

cell_misses : (image : List ℕ) (o : Operand) (a : Arg) (b : ℕ) → bind_one image o ≡ Some a → IsCell o → Misses b o → PlaceMisses b (place_of a)
cell_misses image o a b found is h = place_misses a b (cell_kept image o a found is) (misses_kept image o a b found h)

-- ---- an SBR

all_places : (b n : ℕ) (operands : List Operand) → AllFit (replicate n IntegerPlace) operands → Written b (replicate n IntegerPlace) operands → Each (Misses b) operands
all_places b zero [] fit h = tt
all_places b zero (o ∷ os) fit h = absurd fit
all_places b (suc n) [] fit h = absurd fit
all_places b (suc n) (o ∷ os) fit h = (h.0, all_places b n os fit.1 h.1)

all_parameters : (b n : ℕ) (operands : List Operand) (enough few : Bool) → FitSome (if enough then option_map (λ (kinds : List OperandKind). kinds) (if few then Some (replicate n IntegerPlace) else None) else None) operands → WrittenOf b (if enough then option_map (λ (kinds : List OperandKind). kinds) (if few then Some (replicate n IntegerPlace) else None) else None) operands → Each (Misses b) operands
all_parameters b n operands true true fit h = all_places b n operands fit h
all_parameters b n operands true false fit h = absurd fit
all_parameters b n operands false few fit h = absurd fit

bound_places : (image : List ℕ) (operands : List Operand) (args : List Arg) (b : ℕ) → Each IsCell operands → Each (Misses b) operands → bind image operands ≡ Some args → PlacesMiss b (map place_of args)
bound_places image [] args b are h found =
    let none : [] ≡ args = cc found in
    subst (λ (xs : List Arg). PlacesMiss b (map place_of xs)) none tt
bound_places image (o ∷ os) args b are h found =
    let s = some_head (bind_one image o) (bind image os) args found in
    subst (λ (xs : List Arg). PlacesMiss b (map place_of xs)) (sym s.4) (cell_misses image o s.0 b s.2 are.0 h.0, bound_places image os s.1 b are.1 h.1 s.3)

pub entry_misses : (image : List ℕ) (operands : List Operand) (args : List Arg) (b : ℕ) → OperandsFit Sbr operands → WritesBeside b (record { op = Sbr; args = operands }) → bind image operands ≡ Some args → PlacesMiss b (map place_of args)
entry_misses image operands args b fit h found =
    bound_places image operands args b (entry_operands operands fit).1 (all_parameters b (length operands - 0) operands (nat_le 0 (length operands)) (nat_le (length operands - 0) MAX_PARAMETERS) fit h) found

-- ---- a JSR

-- what is written of its operands is what follows so many inputs
after_inputs : (b : ℕ) (routine second : Operand) (handed : List Operand) (count more : ℕ) (enough : Bool) → more ≡ suc (length handed) → FitSome (if enough then option_map (λ kinds. RoutineName ∷ kinds) (further_kinds HandedOver (Some count) more) else None) (routine ∷ second ∷ handed) → WrittenOf b (if enough then option_map (λ kinds. RoutineName ∷ kinds) (further_kinds HandedOver (Some count) more) else None) (routine ∷ second ∷ handed) → Written b (replicate count IntegerOrNumber ++ replicate (length handed - count) IntegerPlace) handed
after_inputs b routine second handed count more false e fit h = absurd fit
after_inputs b routine second handed count more true e fit h =
    inner (nat_le count (length handed)) (nat_le (length handed - count) MAX_PARAMETERS)
    (subst (λ (n : ℕ). FitSome (option_map (λ kinds. RoutineName ∷ kinds) (further_kinds HandedOver (Some count) n)) (routine ∷ second ∷ handed)) e fit)
    (subst (λ (n : ℕ). WrittenOf b (option_map (λ kinds. RoutineName ∷ kinds) (further_kinds HandedOver (Some count) n)) (routine ∷ second ∷ handed)) e h)
  where
    returns : Bool → Option (List OperandKind)
    returns few = if few then Some (replicate (length handed - count) IntegerPlace) else None

    kinds_for : Bool → Bool → Option (List OperandKind)
    kinds_for has few = option_map (λ kinds. RoutineName ∷ kinds) (option_map (λ kinds. ParameterCount ∷ kinds) (if has then option_map (λ returns. replicate count IntegerOrNumber ++ returns) (returns few) else None))

    inner : (has few : Bool) → FitSome (kinds_for has few) (routine ∷ second ∷ handed) → WrittenOf b (kinds_for has few) (routine ∷ second ∷ handed) → Written b (replicate count IntegerOrNumber ++ replicate (length handed - count) IntegerPlace) handed
    inner true true f w = w
    inner true false f w = absurd f
    inner false few f w = absurd f

returns_miss : (image : List ℕ) (b count more : ℕ) (handed : List Operand) (args : List Arg) → AllFit (replicate count IntegerOrNumber ++ replicate more IntegerPlace) handed → Written b (replicate count IntegerOrNumber ++ replicate more IntegerPlace) handed → bind image handed ≡ Some args → PlacesMiss b (map place_of (drop count args))
returns_miss image b zero zero [] args fit h found =
    let none : [] ≡ args = cc found in
    subst (λ (xs : List Arg). PlacesMiss b (map place_of xs)) none tt
returns_miss image b zero zero (o ∷ os) args fit h found = absurd fit
returns_miss image b zero (suc more) [] args fit h found = absurd fit
returns_miss image b zero (suc more) (o ∷ os) args fit h found =
    let s = some_head (bind_one image o) (bind image os) args found in
    subst (λ (xs : List Arg). PlacesMiss b (map place_of xs)) (sym s.4) (cell_misses image o s.0 b s.2 fit.0 h.0, returns_miss image b zero more os s.1 fit.1 h.1 s.3)
returns_miss image b (suc count) more [] args fit h found = absurd fit
returns_miss image b (suc count) more (o ∷ os) args fit h found =
    let s = some_head (bind_one image o) (bind image os) args found in
    subst (λ (xs : List Arg). PlacesMiss b (map place_of (drop (suc count) xs))) (sym s.4) (returns_miss image b count more os s.1 fit.1 h s.3)

counted_misses : (image : List ℕ) (operands : List Operand) (args : List Arg) (b : ℕ) (c : IsCounted operands) → OperandsFit Jsr operands → WritesBeside b (record { op = Jsr; args = operands }) → bind image operands ≡ Some args → PlacesMiss b (returns_of args)
counted_misses image operands args b c fit h found =
    let given : List Operand = c.routine ∷ operand.Number c.number ∷ c.handed in
    let fits : OperandsFit Jsr given = subst (λ (os : List Operand). OperandsFit Jsr os) c.are fit in
    let misses : WritesBeside b (record { op = Jsr; args = given }) = subst (λ (os : List Operand). WritesBeside b (record { op = Jsr; args = os })) c.are h in
    let written = after_inputs b c.routine (operand.Number c.number) c.handed c.count (length given - 1) (nat_le 1 (length given)) (omega arith)
    (subst (λ (o : Option ℕ). FitSome (if nat_le 1 (length given) then option_map (λ kinds. RoutineName ∷ kinds) (further_kinds HandedOver o (length given - 1)) else None) given) c.is_count fits)
    (subst (λ (o : Option ℕ). WrittenOf b (if nat_le 1 (length given) then option_map (λ kinds. RoutineName ∷ kinds) (further_kinds HandedOver o (length given - 1)) else None) given) c.is_count misses) in
    let all : bind image given ≡ Some args = ap (bind image) (sym c.are) ∙ found in
    let first = some_head (bind_one image c.routine) (bind image (operand.Number c.number ∷ c.handed)) args all in
    let second = some_head (Some (bound.Number c.number)) (bind image c.handed) first.1 first.3 in
    let number : second.0 ≡ bound.Number c.number = cc (sym second.2) in
    let count : input_count args ≡ c.count =
    ap input_count first.4 ∙ ap (λ (xs : List Arg). count_told (arg xs 0)) second.4 ∙ ap count_told number ∙ ap (λ (o : Option ℕ). unwrap_or o 0) c.is_count in
    let rest : returns_of args ≡ map place_of (drop c.count second.1) =
    ap (λ (n : ℕ). map place_of (drop n (drop 2 args))) count ∙ ap (λ (xs : List Arg). map place_of (drop c.count (drop 2 xs))) (first.4 ∙ ap (λ (xs : List Arg). first.0 ∷ xs) second.4) in
    subst (PlacesMiss b) (sym rest) (returns_miss image b c.count (length c.handed - c.count) c.handed second.1 c.fit written second.3)

pub call_misses : (image : List ℕ) (operands : List Operand) (args : List Arg) (b : ℕ) → OperandsFit Jsr operands → WritesBeside b (record { op = Jsr; args = operands }) → bind image operands ≡ Some args → PlacesMiss b (returns_of args)
call_misses image operands args b fit h found = go (call_operands operands fit)
  where
    go : ((routine : Operand) × IsRoutine routine × (operands ≡ routine ∷ [])) ⊎ IsCounted operands → PlacesMiss b (returns_of args)
    go (inl alone) =
        let all : bind image (alone.0 ∷ []) ≡ Some args = ap (bind image) (sym alone.2) ∙ found in
        let first = some_head (bind_one image alone.0) (Some []) args all in
        let none : first.1 ≡ [] = cc (sym first.3) in
        subst (λ (xs : List Arg). PlacesMiss b (returns_of xs)) (sym (first.4 ∙ ap (λ (xs : List Arg). first.0 ∷ xs) none)) tt
    go (inr counted) = counted_misses image operands args b counted fit h found
