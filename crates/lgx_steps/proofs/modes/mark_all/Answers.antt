use Rattle.std.proofs.Common.{Bool, true, false, List, set, ap, ◌∙◌}
use Rattle.lgx_steps.proofs.Leaving.{mapped-more}
use Rattle.lgx_steps.proofs.modes.mark_all.Goals as goal

pub loop-first-preserved : goal.loop-first-preserved
loop-first-preserved c =
    let i = c.loop-first.first-index in
    ap (λ (xs : List Bool). set xs i true) c.loop-first.invariant ∙ mapped-more (λ (b : Bool). true) c.args.firsts.now i false c.loop-first-test.true
