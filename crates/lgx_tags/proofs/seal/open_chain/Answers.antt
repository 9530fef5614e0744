use Rattle.std.proofs.Common.{◌∙◌, ◌<◌, ℕ, [], ◌∷◌, length, subst, sym, true}
use Rattle.std.proofs.lemmas.List.{length-set}
use Rattle.std.specs.List.{AllByRecursion as Each}
use Rattle.spec_base.proofs.Lists.{each_append}
use Rattle.lgx_tags.proofs.seal.open_chain.Goals as goal

pub loop-preserved : goal.loop-preserved
loop-preserved c =
    let count : ℕ = length c.args.declared.now.entries in
    let here : c.in-Some.i < count = rw c.in-Some.is at c.loop.invariant.2 in
    let within : Each (λ j. j < count) c.push.new.self.items = subst (Each (λ j. j < count)) (sym c.in_ok-push.ensures.items) (each_append (λ j. j < count) c.loop.chain.items (c.in-Some.i ∷ []) c.loop.invariant.0 (here, tt)) in
    (within, length-set c.loop.met.items c.in-Some.i true ∙ c.loop.invariant.1, c.next_open-next.ensures)
