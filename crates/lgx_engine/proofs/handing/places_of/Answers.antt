use Rattle.std.proofs.Common.{◌≡◌, ◌+◌, ◌++◌, ◌∷◌, [], List, Some, length, sym, ap, subst, ◌∙◌, arith}
use Rattle.std.specs.List.{AllByRecursion as Each}
use Rattle.lgx_num.specs.declared.place.Place.{Place}
use Rattle.lgx_num.specs.Image.{InBounds}
use Rattle.spec_scan.specs.Arguments.{bind_one, place_of}
use Rattle.lgx_engine.proofs.Told.{Told, told_more, place_of-lies, each_more}
use Rattle.lgx_engine.proofs.handing.places_of.Goals as goal

pub loop-operand-preserved : goal.loop-operand-preserved
loop-operand-preserved c =
    let image = c.args.image.now.bytes in
    let len = length image in
    let k = c.loop-operand.operand-index in
    let items = c.loop-operand.places.items in
    let pushed : c.push.new.self.items ≡ items ++ place_of c.in_ok-arg.arg ∷ [] = c.push.ensures.items ∙ ap (λ (p : Place). items ++ p ∷ []) c.place.ensures in
    let found : bind_one image _ ≡ Some c.in_ok-arg.arg = ap (bind_one image) (sym c.operand-item.is) ∙ sym c.in_ok-arg.ensures.value in (
      omega (arith, c.push.ensures.len, c.loop-operand.invariant.0),
      subst (λ (xs : List Place). Told place_of image c.args.operands.now xs (k + 1)) (sym pushed)
          (told_more place_of image c.args.operands.now items k c.operand-item.result c.in_ok-arg.arg (omega arith) found c.loop-operand.invariant.1),
      subst (λ (xs : List Place). Each (λ p. InBounds p len) xs) (sym pushed)
          (each_more (λ p. InBounds p len) items (place_of c.in_ok-arg.arg) c.loop-operand.invariant.2
          (place_of-lies image c.args.operands.now k c.operand-item.result c.in_ok-arg.arg len c.requires.cells (omega arith) found c.in_ok-arg.ensures.lies)),
    )
