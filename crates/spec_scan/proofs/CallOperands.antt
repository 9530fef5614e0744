-- What operands of a JSR, an SBR and a RET are that fit.
use Rattle.std.proofs.Common.{◌≡◌, ℕ, zero, suc, ◌-◌, ◌≤◌, ◌⊎◌, inl, inr, Bool, true, false, if◌then◌else◌, List, [], ◌∷◌, ◌++◌, length, replicate, drop, ℤ, Option, Some, None, option_map, refl, ap, subst, arith}
use Rattle.std.specs.Prelude.{nat_le, option_and_then, IsTrue, is_some}
use Rattle.std.specs.List.{AllByRecursion as Each}
use Rattle.std.proofs.lemmas.Bool.{leb-true}
use Rattle.spec_base.specs.declared.limits.TheConstants.{MAX_PARAMETERS, MAX_BOUND_OPERANDS}
use Rattle.lgx_rung.specs.declared.op.Op.{Op}
use Rattle.lgx_num.specs.declared.place.Operand.{Operand}
use Rattle.lgx_num.specs.declared.place.Operand.TheVariants as operand
use Rattle.lgx_rung.specs.declared.op.Op.TheVariants.{Jsr, Sbr, Ret}
use Rattle.lgx_rung.specs.declared.operands.OperandKind.{OperandKind}
use Rattle.lgx_rung.specs.declared.operands.OperandKind.TheVariants.{IntegerPlace, IntegerOrNumber, RoutineName, ParameterCount}
use Rattle.lgx_rung.specs.OperandTable.{as_count, fixed_kinds, parameters, handed_kinds, NoMore, HandedOver, further, further_kinds, operand_kinds}
use Rattle.lgx_rung.proofs.KindCounts.{few_fixed, small_count, exactly_fixed}
use Rattle.spec_scan.specs.Fits.{operand_at, IsCell, IsRoutine, IsCount, AllFit, FitSome, number_told, OperandsFit}

-- ---- operands of one kind

pub places_fit : (n : ℕ) (operands : List Operand) → AllFit (replicate n IntegerPlace) operands → Each IsCell operands
places_fit zero [] h = tt
places_fit zero (o ∷ os) h = absurd h
places_fit (suc n) [] h = absurd h
places_fit (suc n) (o ∷ os) h = (h.0, places_fit n os h.1)

-- after so many inputs come places
pub returns_fit : (count more : ℕ) (handed : List Operand) → AllFit (replicate count IntegerOrNumber ++ replicate more IntegerPlace) handed → Each IsCell (drop count handed)
returns_fit zero more handed h = places_fit more handed h
returns_fit (suc count) more [] h = absurd h
returns_fit (suc count) more (o ∷ os) h = returns_fit count more os h.1

-- parameters of a kind: not too many
fit_parameters : (kind : OperandKind) (n : ℕ) (operands : List Operand) → FitSome (parameters kind n) operands → (n ≤ MAX_PARAMETERS) × AllFit (replicate n kind) operands
fit_parameters kind n operands h = go (nat_le n MAX_PARAMETERS) refl h
  where
    go : (few : Bool) → nat_le n MAX_PARAMETERS ≡ few → FitSome (if few then Some (replicate n kind) else None) operands → (n ≤ MAX_PARAMETERS) × AllFit (replicate n kind) operands
    go true e fit = (leb-true n MAX_PARAMETERS e, fit)
    go false e fit = absurd fit

-- ---- a JSR

-- a routine, a count, as many inputs, and places for returns
pub record IsCounted (operands : List Operand) : Type 0 where
  pub routine : Operand
  pub number : ℤ
  pub count : ℕ
  pub handed : List Operand
  pub are : operands ≡ routine ∷ operand.Number number ∷ handed
  pub names : IsRoutine routine
  pub is_count : as_count number ≡ Some count
  pub few_inputs : count ≤ MAX_PARAMETERS
  pub enough : count ≤ length handed
  pub few_returns : length handed - count ≤ MAX_PARAMETERS
  pub fit : AllFit (replicate count IntegerOrNumber ++ replicate (length handed - count) IntegerPlace) handed

-- what follows a count that is one
fit_handed : (count : ℕ) (handed : List Operand) → FitSome (handed_kinds (Some count) (length handed)) handed → (count ≤ length handed) × (length handed - count ≤ MAX_PARAMETERS) × AllFit (replicate count IntegerOrNumber ++ replicate (length handed - count) IntegerPlace) handed
fit_handed count handed h = go (nat_le count (length handed)) refl h
  where
    returns : (few : Bool) → nat_le (length handed - count) MAX_PARAMETERS ≡ few → FitSome (option_map (λ kinds. replicate count IntegerOrNumber ++ kinds) (if few then Some (replicate (length handed - count) IntegerPlace) else None)) handed → (length handed - count ≤ MAX_PARAMETERS) × AllFit (replicate count IntegerOrNumber ++ replicate (length handed - count) IntegerPlace) handed
    returns true e fit = (leb-true (length handed - count) MAX_PARAMETERS e, fit)
    returns false e fit = absurd fit

    go : (enough : Bool) → nat_le count (length handed) ≡ enough → FitSome (if enough then option_map (λ kinds. replicate count IntegerOrNumber ++ kinds) (parameters IntegerPlace (length handed - count)) else None) handed → (count ≤ length handed) × (length handed - count ≤ MAX_PARAMETERS) × AllFit (replicate count IntegerOrNumber ++ replicate (length handed - count) IntegerPlace) handed
    go true e fit =
        let r = returns (nat_le (length handed - count) MAX_PARAMETERS) refl fit in
        (leb-true count (length handed) e, r.0, r.1)
    go false e fit = absurd fit

counted : (routine : Operand) (number : ℤ) (handed : List Operand) → IsRoutine routine → IsTrue (is_some (as_count number)) → FitSome (handed_kinds (as_count number) (length handed)) handed → IsCounted (routine ∷ operand.Number number ∷ handed)
counted routine number handed names is fit = go (as_count number) refl is fit
  where
    go : (count : Option ℕ) → as_count number ≡ count → IsTrue (is_some count) → FitSome (handed_kinds count (length handed)) handed → IsCounted (routine ∷ operand.Number number ∷ handed)
    go (Some count) e some h =
        let f = fit_handed count handed h in
        record {
          routine = routine;
          number = number;
          count = count;
          handed = handed;
          are = refl;
          names = names;
          is_count = e;
          few_inputs = small_count number count e;
          enough = f.0;
          few_returns = f.1;
          fit = f.2;
        }
    go None e some h = absurd (cc some)

second_counts : (routine second : Operand) (handed : List Operand) → IsRoutine routine → IsCount second → FitSome (handed_kinds (option_and_then as_count (number_told second)) (length handed)) handed → IsCounted (routine ∷ second ∷ handed)
second_counts routine (operand.Number number) handed names is fit = counted routine number handed names is fit
second_counts routine _ handed names is fit = absurd is

-- the operands after the first
fit_second : (count : Option ℕ) (routine second : Operand) (handed : List Operand) (enough : Bool) (more : ℕ) → more ≡ suc (length handed) → FitSome (if enough then option_map (λ kinds. RoutineName ∷ kinds) (further_kinds HandedOver count more) else None) (routine ∷ second ∷ handed) → IsRoutine routine × IsCount second × FitSome (handed_kinds count (length handed)) handed
fit_second count routine second handed false more e h = absurd h
fit_second count routine second handed true more e h =
    inner (handed_kinds count (length handed)) (subst (λ (n : ℕ). FitSome (option_map (λ kinds. RoutineName ∷ kinds) (further_kinds HandedOver count n)) (routine ∷ second ∷ handed)) e h)
  where
    inner : (kinds : Option (List OperandKind)) → FitSome (option_map (λ kinds. RoutineName ∷ kinds) (option_map (λ kinds. ParameterCount ∷ kinds) kinds)) (routine ∷ second ∷ handed) → IsRoutine routine × IsCount second × FitSome kinds handed
    inner (Some kinds) fit = (fit.0, fit.1.0, fit.1.1)
    inner None fit = absurd fit

-- a JSR has a routine alone, or is counted
pub call_operands : (operands : List Operand) → OperandsFit Jsr operands → ((routine : Operand) × IsRoutine routine × (operands ≡ routine ∷ [])) ⊎ IsCounted operands
call_operands [] h = absurd h
call_operands (routine ∷ []) h = inl (routine, h.0, refl)
call_operands (routine ∷ second ∷ handed) h =
    let f = fit_second (option_and_then as_count (number_told second)) routine second handed (nat_le 1 (suc (suc (length handed)))) (suc (suc (length handed)) - 1) (omega arith) h in
    inr (second_counts routine second handed f.0 f.1 f.2)

-- ---- an SBR, and a RET

no_fewer : (kind : OperandKind) (enough : Bool) (more : ℕ) (operands : List Operand) → more ≡ length operands → FitSome (if enough then option_map (λ (kinds : List OperandKind). kinds) (parameters kind more) else None) operands → FitSome (parameters kind (length operands)) operands
no_fewer kind false more operands e h = absurd h
no_fewer kind true more operands e h = inner (parameters kind (length operands)) (subst (λ (n : ℕ). FitSome (option_map (λ (kinds : List OperandKind). kinds) (parameters kind n)) operands) e h)
  where
    inner : (kinds : Option (List OperandKind)) → FitSome (option_map (λ (kinds : List OperandKind). kinds) kinds) operands → FitSome kinds operands
    inner (Some kinds) fit = fit
    inner None fit = absurd fit

-- an SBR has a few places
pub entry_operands : (operands : List Operand) → OperandsFit Sbr operands → (length operands ≤ MAX_PARAMETERS) × Each IsCell operands
entry_operands operands h =
    let f = fit_parameters IntegerPlace (length operands) operands (no_fewer IntegerPlace (nat_le 0 (length operands)) (length operands - 0) operands (omega arith) h) in
    (f.0, places_fit (length operands) operands f.1)

-- a RET has a few operands
pub return_operands : (operands : List Operand) → OperandsFit Ret operands → length operands ≤ MAX_PARAMETERS
return_operands operands h =
    (fit_parameters IntegerOrNumber (length operands) operands (no_fewer IntegerOrNumber (nat_le 0 (length operands)) (length operands - 0) operands (omega arith) h)).0

-- ---- all others

all_fit_length : (kinds : List OperandKind) (operands : List Operand) → AllFit kinds operands → length operands ≡ length kinds
all_fit_length [] [] h = refl
all_fit_length [] (o ∷ os) h = absurd h
all_fit_length (kind ∷ kinds) [] h = absurd h
all_fit_length (kind ∷ kinds) (o ∷ os) h = ap suc (all_fit_length kinds os h.1)

-- an instruction that may have no operands but those that it always has can have them bound at once
pub few_bound : (op : Op) (operands : List Operand) → further op ≡ NoMore → OperandsFit op operands → length operands ≤ MAX_BOUND_OPERANDS
few_bound op operands no_more h = go (operand_kinds op (number_told (operand_at operands 1)) (length operands)) refl h
  where
    go : (kinds : Option (List OperandKind)) → operand_kinds op (number_told (operand_at operands 1)) (length operands) ≡ kinds → FitSome kinds operands → length operands ≤ MAX_BOUND_OPERANDS
    go (Some kinds) e fit =
        let same : kinds ≡ fixed_kinds op = exactly_fixed op (number_told (operand_at operands 1)) (length operands) kinds no_more e in
        omega (arith, all_fit_length kinds operands fit, ap length same, few_fixed op)
    go None e fit = absurd fit
