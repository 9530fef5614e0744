-- Checking keeps outlines.
use Rattle.std.specs.Prelude.{◌≡◌, ℕ, suc, ◌+◌, Bool, true, false, if◌then◌else◌, List, [], ◌∷◌, ◌++◌, map, length, filter_map, Option, Some, None, Result, Ok, Err, option_map, refl}
use Rattle.std.specs.Result.{result_ok, result_err}
use Rattle.std.proofs.Common.{ap, sym, arith, ◌∙◌}
use Rattle.lgx_num.specs.declared.place.Operand.{Operand}
use Rattle.lgx_rung.specs.Tree.{Tree, end, one, fork, Legs, last, leg, Source, SourceIns, instructions, leg_instructions}
use Rattle.lgx_rung.specs.declared.op.Op.{Op}
use Rattle.lgx_rung.specs.declared.fault.CheckCode.{CheckCode}
use Rattle.lgx_rung.specs.declared.fault.CheckCode.TheVariants.{C1}
use Rattle.lgx_rung.specs.OperandTable.{operand_kinds}
use Rattle.lgx_rung.specs.declared.operands.OperandKind.{OperandKind}
use Rattle.spec_language.specs.Operands.{paired, second_number}
use Rattle.lgx_rung.proofs.KindCounts.{kinds_counted}
use Rattle.std.specs.List.{zip}
use Rattle.std.proofs.lemmas.Slice.Zip.{length-zip}
use Rattle.lgx_rung.specs.declared.ins.Ins.{Ins}
use Rattle.std.specs.Prelude.{nat_le}
use Rattle.spec_language.specs.Checked.{code_number, other_faults, CheckScope, Spot, Label, labels, spot_after, operand_of, operands_of, lesser, least, answered, settled, instruction_of, checked_tree, checked_legs, checked_from}
use Rattle.spec_language.specs.CheckedLaws.{tree_map, legs_map, source_outline, outline, KeepsOutline}
use Rattle.spec_base.proofs.Binds.{bind_ok, ok_inj, err_not_ok}

-- ---- one instruction

-- the kinds that texts are paired with, as many as texts
pub paired_kinds : (op : Op) (texts : List (List ℕ)) (pairs : List (OperandKind × List ℕ)) → paired op texts ≡ Some pairs → (kinds : List OperandKind) × (operand_kinds op (second_number texts) (length texts) ≡ Some kinds) × (length kinds ≡ length texts) × (pairs ≡ zip kinds texts)
paired_kinds op texts pairs p = go (operand_kinds op (second_number texts) (length texts)) refl p
  where
    go : (o : Option (List OperandKind)) → operand_kinds op (second_number texts) (length texts) ≡ o → option_map (λ kinds. zip kinds texts) o ≡ Some pairs → (kinds : List OperandKind) × (o ≡ Some kinds) × (length kinds ≡ length texts) × (pairs ≡ zip kinds texts)
    go (Some kinds) e q =
        let same : zip kinds texts ≡ pairs = cc q in
        (kinds, refl, (kinds_counted op (second_number texts) (length texts) kinds e).0, sym same)
    go None e q = absurd (cc q)

-- texts that are paired keep their number
zip_length : (kinds : List OperandKind) (texts : List (List ℕ)) → length kinds ≡ length texts → length (zip kinds texts) ≡ length texts
zip_length kinds texts same = length-zip kinds texts ∙ omega (arith, same)

pub some_lesser : (c : CheckCode) (o : Option CheckCode) → lesser c o ≡ None → ⊥
some_lesser c None p = cc p
some_lesser c (Some d) p = go (nat_le (code_number c) (code_number d)) p
  where
    go : (b : Bool) → (if b then Some c else Some d) ≡ None → ⊥
    go true q = cc q
    go false q = cc q

-- if there is no least code there is none, and every operand stands for something
pub none_least : (cs : List CheckCode) → least cs ≡ None → cs ≡ []
none_least [] p = refl
none_least (c ∷ cs) p = absurd (some_lesser c (least cs) p)

pub all_there : (rs : List (Result Operand CheckCode)) (cs : List CheckCode) → (filter_map result_err rs ++ cs) ≡ [] → length (filter_map result_ok rs) ≡ length rs
all_there [] cs p = refl
all_there (Ok o ∷ rs) cs p = ap suc (all_there rs cs p)
all_there (Err e ∷ rs) cs p = absurd (cc p)

pub answered_outline : (spot : Spot) (op : Op) (args : List Operand) (o : Option CheckCode) (made : Ins) → answered spot op args o ≡ Ok made → (o ≡ None) × (made ≡ record { op = op; args = args })
answered_outline spot op args None made p = (refl, sym (ok_inj _ _ p))
answered_outline spot op args (Some code) made p = err_not_ok _ _ p

pub operands_length : (s : CheckScope) (ls : List Label) (spot : Spot) (ps : List (OperandKind × List ℕ)) → length (map (operand_of s ls spot) ps) ≡ length ps
operands_length s ls spot [] = refl
operands_length s ls spot (p ∷ ps) = ap suc (operands_length s ls spot ps)

pub instruction_outline : (s : CheckScope) (ls : List Label) (spot : Spot) (i : SourceIns) (made : Ins) → instruction_of s ls spot i ≡ Ok made → outline made ≡ source_outline i
instruction_outline s ls spot i made p = go (paired i.op i.texts) refl p
  where
    go : (o : Option (List (OperandKind × List ℕ))) → paired i.op i.texts ≡ o → settled ls spot i (operands_of s ls spot o) ≡ Ok made → outline made ≡ source_outline i
    go None q r =
        let codes : List CheckCode = C1 ∷ other_faults ls spot i in
        let a : (least codes ≡ None) × (made ≡ record { op = i.op; args = [] }) = answered_outline spot i.op [] (least codes) made r in
        absurd (cc (none_least codes a.0))
    go (Some ps) q r =
        let a = answered_outline spot i.op _ _ made r in
        let there : length (filter_map result_ok (map (operand_of s ls spot) ps)) ≡ length (map (operand_of s ls spot) ps) = all_there (map (operand_of s ls spot) ps) _ (none_least _ a.0) in
        let k = paired_kinds i.op i.texts ps q in
        rw (a.1, there, operands_length s ls spot ps, k.3, zip_length k.0 i.texts k.2) refl

-- ---- rungs

mutual
  pub tree_outline : (s : CheckScope) (ls : List Label) (spot : Spot) (t : Tree SourceIns) (made : Tree Ins) → checked_tree (instruction_of s ls) spot t ≡ Ok made → tree_map outline made ≡ tree_map source_outline t
  tree_outline s ls spot end made p = rw (← ok_inj _ _ p) refl
  tree_outline s ls spot (one i rest) made p =
      let a = bind_ok (instruction_of s ls spot i) _ made p in
      let b = bind_ok (checked_tree (instruction_of s ls) (spot_after 1 spot) rest) _ made a.2 in
      rw (← ok_inj _ _ b.2, instruction_outline s ls spot i a.0 a.1, tree_outline s ls (spot_after 1 spot) rest b.0 b.1) refl
  tree_outline s ls spot (fork t legs rest) made p =
      let a = bind_ok (checked_tree (instruction_of s ls) (spot_after 0 spot) t) _ made p in
      let b = bind_ok (checked_legs (instruction_of s ls) (spot_after (length (instructions t)) spot) legs) _ made a.2 in
      let c = bind_ok (checked_tree (instruction_of s ls) (spot_after (length (instructions t) + length (leg_instructions legs)) spot) rest) _ made b.2 in
      rw (← ok_inj _ _ c.2, tree_outline s ls _ t a.0 a.1, legs_outline s ls _ legs b.0 b.1, tree_outline s ls _ rest c.0 c.1) refl

  pub legs_outline : (s : CheckScope) (ls : List Label) (spot : Spot) (legs : Legs SourceIns) (made : Legs Ins) → checked_legs (instruction_of s ls) spot legs ≡ Ok made → legs_map outline made ≡ legs_map source_outline legs
  legs_outline s ls spot last made p = rw (← ok_inj _ _ p) refl
  legs_outline s ls spot (leg t legs) made p =
      let a = bind_ok (checked_tree (instruction_of s ls) spot t) _ made p in
      let b = bind_ok (checked_legs (instruction_of s ls) (spot_after (length (instructions t)) spot) legs) _ made a.2 in
      rw (← ok_inj _ _ b.2, tree_outline s ls _ t a.0 a.1, legs_outline s ls _ legs b.0 b.1) refl

pub rungs_outline : (s : CheckScope) (ls : List Label) (rung before : ℕ) (rungs : List Source) (made : List (Tree Ins)) → checked_from (instruction_of s ls) rung before rungs ≡ Ok made → map (tree_map outline) made ≡ map (tree_map source_outline) rungs
rungs_outline s ls rung before [] made p = rw (← ok_inj _ _ p) refl
rungs_outline s ls rung before (r ∷ rs) made p =
    let a = bind_ok (checked_tree (instruction_of s ls) (record { rung = rung; ins = 0; before = before; leads = true }) r) _ made p in
    let b = bind_ok (checked_from (instruction_of s ls) (suc rung) (before + length (instructions r)) rs) _ made a.2 in
    rw (← ok_inj _ _ b.2, tree_outline s ls _ r a.0 a.1, rungs_outline s ls (suc rung) (before + length (instructions r)) rs b.0 b.1) refl

pub proved_outline : KeepsOutline
proved_outline scope rungs made p = rungs_outline scope (labels rungs) 0 0 rungs made p
