use Rattle.std.proofs.Common.{◌≡◌, ◌+◌, ◌++◌, ◌∷◌, [], ℤ, List, length, sym, ap, subst, ◌∙◌, arith}
use Rattle.std.specs.Int.{w32}
use Rattle.std.proofs.lemmas.Int.{to_z-of_z}
use Rattle.spec_scan.specs.Arguments.{bind_one, value_of}
use Rattle.lgx_engine.proofs.Told.{Told, told_more}
use Rattle.lgx_engine.proofs.handing.numbers_of.Goals as goal

pub loop-operand-preserved : goal.loop-operand-preserved
loop-operand-preserved c =
    let image = c.args.image.now.bytes in
    let k = c.loop-operand.operand-index in
    let items = c.loop-operand.numbers.items in
    let pushed : c.push.new.self.items ≡ items ++ value_of image c.in_ok-arg.arg ∷ [] = c.push.ensures.items ∙ ap (λ (v : ℤ). items ++ v ∷ []) (to_z-of_z w32 c.value.result (record { sfits = c.value.type_inv }) ∙ c.value.ensures) in (
      omega (arith, ap length pushed, c.push.ensures.len, c.loop-operand.invariant.0),
      subst (λ (xs : List ℤ). Told (value_of image) image c.args.operands.now xs (k + 1)) (sym pushed)
          (told_more (value_of image) image c.args.operands.now items k c.operand-item.result c.in_ok-arg.arg (omega arith)
          (ap (bind_one image) (sym c.operand-item.is) ∙ sym c.in_ok-arg.ensures.value) c.loop-operand.invariant.1),
    )
