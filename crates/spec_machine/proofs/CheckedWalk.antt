-- What holds of each instruction that checking gives holds of all of checked rungs.
use Rattle.std.specs.Prelude.{◌≡◌, ℕ, suc, ◌+◌, true, List, [], ◌∷◌, ◌++◌, length, Result, Ok}
use Rattle.std.specs.List.{AllByRecursion as Each}
use Rattle.std.proofs.Common.{subst}
use Rattle.lgx_rung.specs.declared.fault.CheckFault.{CheckFault}
use Rattle.lgx_rung.specs.declared.ins.Ins.{Ins}
use Rattle.lgx_rung.specs.Tree.{Tree, end, one, fork, Legs, last, leg, Source, SourceIns, instructions, leg_instructions}
use Rattle.spec_base.proofs.Binds.{bind_ok, ok_inj}
use Rattle.spec_base.proofs.Lists.{each_append}
use Rattle.spec_language.specs.Checked.{Spot, spot_after, checked_tree, checked_legs, checked_from}

module _ (check : Spot → SourceIns → Result Ins CheckFault) (P : Ins → Type 0) (each : (spot : Spot) (i : SourceIns) (made : Ins) → check spot i ≡ Ok made → P made) where
  mutual
    tree_has : (spot : Spot) (t : Tree SourceIns) (made : Tree Ins) → checked_tree check spot t ≡ Ok made → Each P (instructions made)
    tree_has spot end made p = subst (λ (z : Tree Ins). Each P (instructions z)) (ok_inj _ _ p) tt
    tree_has spot (one i rest) made p =
        let a = bind_ok (check spot i) _ made p in
        let b = bind_ok (checked_tree check (spot_after 1 spot) rest) _ made a.2 in
        subst (λ (z : Tree Ins). Each P (instructions z)) (ok_inj _ _ b.2) (each spot i a.0 a.1, tree_has (spot_after 1 spot) rest b.0 b.1)
    tree_has spot (fork t legs rest) made p =
        let after_leg = spot_after (length (instructions t)) spot in
        let after_legs = spot_after (length (instructions t) + length (leg_instructions legs)) spot in
        let a = bind_ok (checked_tree check (spot_after 0 spot) t) _ made p in
        let b = bind_ok (checked_legs check after_leg legs) _ made a.2 in
        let c = bind_ok (checked_tree check after_legs rest) _ made b.2 in
        let others = each_append P (leg_instructions b.0) (instructions c.0) (legs_have after_leg legs b.0 b.1) (tree_has after_legs rest c.0 c.1) in
        subst (λ (z : Tree Ins). Each P (instructions z)) (ok_inj _ _ c.2) (each_append P (instructions a.0) (leg_instructions b.0 ++ instructions c.0) (tree_has (spot_after 0 spot) t a.0 a.1) others)

    legs_have : (spot : Spot) (legs : Legs SourceIns) (made : Legs Ins) → checked_legs check spot legs ≡ Ok made → Each P (leg_instructions made)
    legs_have spot last made p = subst (λ (z : Legs Ins). Each P (leg_instructions z)) (ok_inj _ _ p) tt
    legs_have spot (leg t legs) made p =
        let after_leg = spot_after (length (instructions t)) spot in
        let a = bind_ok (checked_tree check spot t) _ made p in
        let b = bind_ok (checked_legs check after_leg legs) _ made a.2 in
        subst (λ (z : Legs Ins). Each P (leg_instructions z)) (ok_inj _ _ b.2) (each_append P (instructions a.0) (leg_instructions b.0) (tree_has spot t a.0 a.1) (legs_have after_leg legs b.0 b.1))

  pub rungs_have : (rung before : ℕ) (rungs : List Source) (made : List (Tree Ins)) → checked_from check rung before rungs ≡ Ok made → Each (λ r. Each P (instructions r)) made
  rungs_have rung before [] made p = subst (λ (z : List (Tree Ins)). Each (λ r. Each P (instructions r)) z) (ok_inj _ _ p) tt
  rungs_have rung before (r ∷ rs) made p =
      let first : Spot = record { rung = rung; ins = 0; before = before; leads = true } in
      let a = bind_ok (checked_tree check first r) _ made p in
      let b = bind_ok (checked_from check (suc rung) (before + length (instructions r)) rs) _ made a.2 in
      subst (λ (z : List (Tree Ins)). Each (λ r. Each P (instructions r)) z) (ok_inj _ _ b.2) (tree_has first r a.0 a.1, rungs_have (suc rung) (before + length (instructions r)) rs b.0 b.1)
