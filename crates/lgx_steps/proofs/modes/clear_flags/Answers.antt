use Rattle.std.proofs.Common.{set, sym, ap, ◌∙◌}
use Rattle.std.proofs.lemmas.List.Edits.{map_over_more}
use Rattle.lgx_steps.specs.declared.parts.Progress.{Progress as KeptProgress}
use Rattle.lgx_steps.specs.PartsView.{without_flags}
use Rattle.lgx_steps.proofs.modes.clear_flags.Goals as goal

pub loop-one-preserved : goal.loop-one-preserved
loop-one-preserved c =
    let xs = c.loop-one.progress in
    let i = c.loop-one.one-index in
    ap (λ (r : KeptProgress). set xs i (without_flags r)) (sym c.one-item.is)
    ∙ map_over_more without_flags c.args.progress.now xs i c.one-item.result c.loop-one-test.true c.loop-one.invariant c.one-item.is
