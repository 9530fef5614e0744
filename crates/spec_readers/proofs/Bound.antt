-- Operands that have nothing to do with some bytes, and the places that they have over two images that are the same but there.
use Rattle.std.specs.Prelude.{take, drop, nat_le, unwrap_or}
use Rattle.std.specs.List.{AllByRecursion as Each}
use Rattle.std.proofs.Common.{◌≡◌, ℕ, zero, suc, ◌+◌, ◌-◌, inl, inr, ◌⊎◌, Bool, true, false, if◌then◌else◌, List, [], ◌∷◌, ◌++◌, length, replicate, ℤ, Option, Some, None, option_map, refl, sym, ap, ◌∙◌, subst, arith}
use Rattle.spec_base.specs.declared.limits.TheConstants.{MAX_PARAMETERS}
use Rattle.spec_base.proofs.Numbers.{one_on}
use Rattle.lgx_num.specs.declared.place.Index.{Index}
use Rattle.lgx_num.specs.declared.place.Operand.{Operand}
use Rattle.lgx_num.specs.declared.place.Operand.TheVariants as operand
use Rattle.lgx_num.specs.Image.{number, step_by, moved, path_offset}
use Rattle.lgx_rung.specs.declared.ins.Ins.{Ins}
use Rattle.lgx_rung.specs.declared.op.Op.{Op}
use Rattle.lgx_rung.specs.declared.op.Op.TheVariants.{Jsr, Ret}
use Rattle.lgx_rung.specs.declared.operands.OperandKind.{OperandKind}
use Rattle.lgx_rung.specs.declared.operands.OperandKind.TheVariants.{IntegerPlace, IntegerOrNumber, ParameterCount, RoutineName}
use Rattle.lgx_rung.specs.OperandTable.{fixed_kinds, NoMore, HandedOver, further, further_kinds}
use Rattle.spec_scan.specs.declared.bound.Arg.{Arg}
use Rattle.spec_scan.specs.declared.bound.Arg.TheVariants as bound
use Rattle.spec_scan.specs.Arguments.{arg, bind, bind_one, before_others, cell_at, timer_at, counter_at, block_at}
use Rattle.spec_scan.specs.Fits.{operand_at, AllFit, FitSome, IsRoutine, OperandsFit}
use Rattle.spec_scan.specs.Parameters.{count_told, input_count}
use Rattle.spec_scan.proofs.CallOperands.{IsCounted, call_operands}
use Rattle.spec_scan.proofs.KeptKinds.{bound_at, some_head}
use Rattle.spec_uses.specs.Written.{those_of, read}
use Rattle.spec_beside.proofs.Beside.{misses_kept, own_kinds}
use Rattle.spec_readers.specs.Reads.{AreSameBut, OperandSpares, StepsSpare, SubscriptsSpare}
use Rattle.spec_readers.proofs.Images.{place_same}
use Rattle.spec_readers.proofs.Rows.{reads, ArgSpares, IfRead, ArgsSpareFrom, ArgsSpare}

module _ (T : ℕ → Type 0) where
  -- ---- subscripts

  module _ (x y : List ℕ) (h : AreSameBut T x y) where
    offset_same : (steps : List Index) (at : ℕ) → StepsSpare T steps → path_offset x steps at ≡ path_offset y steps at
    offset_same [] at s = refl
    offset_same (i ∷ is) at s =
        ap (λ (v : ℤ). moved (step_by i v) (path_offset x is at)) (place_same T x y i.of h s.0) ∙ ap (moved (step_by i (number y i.of))) (offset_same is at s.1)

    one_same : (o : Operand) → SubscriptsSpare T o → bind_one x o ≡ bind_one y o
    one_same (operand.Cell p) s = ap (option_map (cell_at p.kind)) (offset_same p.steps p.at s)
    one_same (operand.Timer p) s = ap (option_map timer_at) (offset_same p.steps p.at s)
    one_same (operand.Counter p) s = ap (option_map counter_at) (offset_same p.steps p.at s)
    one_same (operand.Block b) s = ap (option_map (block_at b)) (offset_same b.path.steps b.path.at s)
    one_same (operand.Number n) s = refl
    one_same (operand.FlagOf f) s = refl
    one_same _ s = refl

    pub bind_same : (os : List Operand) → Each (SubscriptsSpare T) os → bind x os ≡ bind y os
    bind_same [] s = refl
    bind_same (o ∷ os) s = ap (λ (a : Option Arg). before_others a (bind x os)) (one_same o s.0) ∙ ap (before_others (bind_one y o)) (bind_same os s.1)

  -- ---- operands that are read

  one_spares : (image : List ℕ) (o : Operand) (a : Arg) → bind_one image o ≡ Some a → OperandSpares T o → ArgSpares T a
  one_spares image o a found s = λ b t. misses_kept image o a b found (s b t)

  spare_from : (op : Op) (image : List ℕ) (kinds : List OperandKind) (os : List Operand) (args : List Arg) (i : ℕ) → ((j : ℕ) → bind_one image (operand_at os j) ≡ Some (arg args (i + j))) → AllFit kinds os → Each (OperandSpares T) (those_of (reads op) kinds os) → ArgsSpareFrom T op i kinds args
  spare_from op image [] os args i found fit s = tt
  spare_from op image (kind ∷ kinds) [] args i found fit s = absurd fit
  spare_from op image (kind ∷ kinds) (o ∷ os) args i found fit s = go (reads op kind) s (λ k. spare_from op image kinds os args (i + 1) (λ j. found (suc j) ∙ ap (λ (n : ℕ). Some (arg args n)) (one_on i j)) fit.1 k)
    where
      here : bind_one image o ≡ Some (arg args i)
      here = found 0 ∙ ap (λ (n : ℕ). Some (arg args n)) (omega arith)

      go : (r : Bool) → Each (OperandSpares T) (if r then o ∷ those_of (reads op) kinds os else those_of (reads op) kinds os) → (Each (OperandSpares T) (those_of (reads op) kinds os) → ArgsSpareFrom T op (i + 1) kinds args) → IfRead T r (ArgSpares T (arg args i)) × ArgsSpareFrom T op (i + 1) kinds args
      go true k rest = (one_spares image o (arg args i) here k.0, rest k.1)
      go false k rest = (tt, rest k)

  pub args_spare : (image : List ℕ) (i : Ins) (args : List Arg) → further i.op ≡ NoMore → OperandsFit i.op i.args → bind image i.args ≡ Some args → Each (OperandSpares T) (read i) → ArgsSpare T i.op args
  args_spare image i args no_more fit found s =
      let k = own_kinds i no_more fit in
      spare_from i.op image (fixed_kinds i.op) i.args args 0 (λ j. bound_at image i.args args j found ∙ ap (λ (n : ℕ). Some (arg args n)) (let z : j ≡ 0 + j = omega arith in z)) k.1
      (subst (λ (ks : List OperandKind). Each (OperandSpares T) (those_of (reads i.op) ks i.args)) k.0 s)

  -- ---- what a RET returns

  all_read : (n : ℕ) (os : List Operand) → AllFit (replicate n IntegerOrNumber) os → Each (OperandSpares T) (those_of (reads Ret) (replicate n IntegerOrNumber) os) → Each (OperandSpares T) os
  all_read zero [] fit s = tt
  all_read zero (o ∷ os) fit s = absurd fit
  all_read (suc n) [] fit s = absurd fit
  all_read (suc n) (o ∷ os) fit s = (s.0, all_read n os fit.1 s.1)

  returned_read : (n : ℕ) (os : List Operand) (enough few : Bool) → FitSome (if enough then option_map (λ (kinds : List OperandKind). kinds) (if few then Some (replicate n IntegerOrNumber) else None) else None) os → Each (OperandSpares T) (those_of (reads Ret) (unwrap_or (if enough then option_map (λ (kinds : List OperandKind). kinds) (if few then Some (replicate n IntegerOrNumber) else None) else None) []) os) → Each (OperandSpares T) os
  returned_read n os true true fit s = all_read n os fit s
  returned_read n os true false fit s = absurd fit
  returned_read n os false few fit s = absurd fit

  each_bound : (image : List ℕ) (os : List Operand) (args : List Arg) → Each (OperandSpares T) os → bind image os ≡ Some args → Each (ArgSpares T) args
  each_bound image [] args s found =
      let none : [] ≡ args = cc found in
      subst (λ (bs : List Arg). Each (ArgSpares T) bs) none tt
  each_bound image (o ∷ os) args s found =
      let k = some_head (bind_one image o) (bind image os) args found in
      subst (λ (bs : List Arg). Each (ArgSpares T) bs) (sym k.4) (one_spares image o k.0 k.2 s.0, each_bound image os k.1 s.1 k.3)

  pub returned_spare : (image : List ℕ) (os : List Operand) (args : List Arg) → OperandsFit Ret os → Each (OperandSpares T) (read (record { op = Ret; args = os })) → bind image os ≡ Some args → Each (ArgSpares T) args
  returned_spare image os args fit s found =
      each_bound image os args (returned_read (length os - 0) os (nat_le 0 (length os)) (nat_le (length os - 0) MAX_PARAMETERS) fit s) found

  -- ---- what a JSR hands over

  after_names : (routine second : Operand) (handed : List Operand) (count more : ℕ) (enough : Bool) → more ≡ suc (length handed) → FitSome (if enough then option_map (λ kinds. RoutineName ∷ kinds) (further_kinds HandedOver (Some count) more) else None) (routine ∷ second ∷ handed) → Each (OperandSpares T) (those_of (reads Jsr) (unwrap_or (if enough then option_map (λ kinds. RoutineName ∷ kinds) (further_kinds HandedOver (Some count) more) else None) []) (routine ∷ second ∷ handed)) → Each (OperandSpares T) (those_of (reads Jsr) (replicate count IntegerOrNumber ++ replicate (length handed - count) IntegerPlace) handed)
  after_names routine second handed count more false e fit s = absurd fit
  after_names routine second handed count more true e fit s =
      inner (nat_le count (length handed)) (nat_le (length handed - count) MAX_PARAMETERS)
      (subst (λ (n : ℕ). FitSome (option_map (λ kinds. RoutineName ∷ kinds) (further_kinds HandedOver (Some count) n)) (routine ∷ second ∷ handed)) e fit)
      (subst (λ (n : ℕ). Each (OperandSpares T) (those_of (reads Jsr) (unwrap_or (option_map (λ kinds. RoutineName ∷ kinds) (further_kinds HandedOver (Some count) n)) []) (routine ∷ second ∷ handed))) e s)
    where
      returns : Bool → Option (List OperandKind)
      returns few = if few then Some (replicate (length handed - count) IntegerPlace) else None

      kinds_for : Bool → Bool → Option (List OperandKind)
      kinds_for has few = option_map (λ kinds. RoutineName ∷ kinds) (option_map (λ kinds. ParameterCount ∷ kinds) (if has then option_map (λ returns. replicate count IntegerOrNumber ++ returns) (returns few) else None))

      inner : (has few : Bool) → FitSome (kinds_for has few) (routine ∷ second ∷ handed) → Each (OperandSpares T) (those_of (reads Jsr) (unwrap_or (kinds_for has few) []) (routine ∷ second ∷ handed)) → Each (OperandSpares T) (those_of (reads Jsr) (replicate count IntegerOrNumber ++ replicate (length handed - count) IntegerPlace) handed)
      inner true true f w = w.1.1
      inner true false f w = absurd f
      inner false few f w = absurd f

  -- the first so many of them
  inputs_spare : (image : List ℕ) (count : ℕ) (more : List OperandKind) (handed : List Operand) (args : List Arg) → AllFit (replicate count IntegerOrNumber ++ more) handed → Each (OperandSpares T) (those_of (reads Jsr) (replicate count IntegerOrNumber ++ more) handed) → bind image handed ≡ Some args → Each (ArgSpares T) (take count args)
  inputs_spare image zero more handed args fit s found = tt
  inputs_spare image (suc count) more [] args fit s found = absurd fit
  inputs_spare image (suc count) more (o ∷ os) args fit s found =
      let k = some_head (bind_one image o) (bind image os) args found in
      subst (λ (bs : List Arg). Each (ArgSpares T) (take (suc count) bs)) (sym k.4) (one_spares image o k.0 k.2 s.0, inputs_spare image count more os k.1 fit.1 s.1 k.3)

  -- those that a call hands over
  abbrev pub HandedSpare : List Arg → Type 0
  HandedSpare args = Each (ArgSpares T) (take (input_count args) (drop 2 args))

  counted_spare : (image : List ℕ) (os : List Operand) (args : List Arg) (c : IsCounted os) → OperandsFit Jsr os → Each (OperandSpares T) (read (record { op = Jsr; args = os })) → bind image os ≡ Some args → HandedSpare args
  counted_spare image os args c fit s found =
      let given : List Operand = c.routine ∷ operand.Number c.number ∷ c.handed in
      let fits : OperandsFit Jsr given = subst (λ (xs : List Operand). OperandsFit Jsr xs) c.are fit in
      let spare : Each (OperandSpares T) (read (record { op = Jsr; args = given })) = subst (λ (xs : List Operand). Each (OperandSpares T) (read (record { op = Jsr; args = xs }))) c.are s in
      let handed = after_names c.routine (operand.Number c.number) c.handed c.count (length given - 1) (nat_le 1 (length given)) (omega arith)
      (subst (λ (o : Option ℕ). FitSome (if nat_le 1 (length given) then option_map (λ kinds. RoutineName ∷ kinds) (further_kinds HandedOver o (length given - 1)) else None) given) c.is_count fits)
      (subst (λ (o : Option ℕ). Each (OperandSpares T) (those_of (reads Jsr) (unwrap_or (if nat_le 1 (length given) then option_map (λ kinds. RoutineName ∷ kinds) (further_kinds HandedOver o (length given - 1)) else None) []) given)) c.is_count spare) in
      let all : bind image given ≡ Some args = ap (bind image) (sym c.are) ∙ found in
      let first = some_head (bind_one image c.routine) (bind image (operand.Number c.number ∷ c.handed)) args all in
      let second = some_head (Some (bound.Number c.number)) (bind image c.handed) first.1 first.3 in
      let number : second.0 ≡ bound.Number c.number = cc (sym second.2) in
      let count : input_count args ≡ c.count =
      ap input_count first.4 ∙ ap (λ (xs : List Arg). count_told (arg xs 0)) second.4 ∙ ap count_told number ∙ ap (λ (o : Option ℕ). unwrap_or o 0) c.is_count in
      let rest : take (input_count args) (drop 2 args) ≡ take c.count second.1 =
      ap (λ (n : ℕ). take n (drop 2 args)) count ∙ ap (λ (xs : List Arg). take c.count (drop 2 xs)) (first.4 ∙ ap (λ (xs : List Arg). first.0 ∷ xs) second.4) in
      subst (λ (bs : List Arg). Each (ArgSpares T) bs) (sym rest) (inputs_spare image c.count (replicate (length c.handed - c.count) IntegerPlace) c.handed second.1 c.fit handed second.3)

  pub handed_spare : (image : List ℕ) (os : List Operand) (args : List Arg) → OperandsFit Jsr os → Each (OperandSpares T) (read (record { op = Jsr; args = os })) → bind image os ≡ Some args → HandedSpare args
  handed_spare image os args fit s found = go (call_operands os fit)
    where
      go : ((routine : Operand) × IsRoutine routine × (os ≡ routine ∷ [])) ⊎ IsCounted os → HandedSpare args
      go (inl alone) =
          let all : bind image (alone.0 ∷ []) ≡ Some args = ap (bind image) (sym alone.2) ∙ found in
          let first = some_head (bind_one image alone.0) (Some []) args all in
          let none : first.1 ≡ [] = cc (sym first.3) in
          subst HandedSpare (sym (first.4 ∙ ap (λ (xs : List Arg). first.0 ∷ xs) none)) tt
      go (inr counted) = counted_spare image os args counted fit s found
