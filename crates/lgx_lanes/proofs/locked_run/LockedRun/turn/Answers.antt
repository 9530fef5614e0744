-- A turn is put off only if the pass counted otherwise.
use Rattle.std.proofs.Common.{sym, ap, ◌∙◌}
use Rattle.lgx_lanes.specs.Seen.{done_in}
use Rattle.lgx_lanes.proofs.InStep.{counted}
use Rattle.lgx_lanes.proofs.locked_run.LockedRun.turn.Goals as goal

pub returns-then-made-pass-clause-sure : goal.returns-then-made-pass-clause-sure
returns-then-made-pass-clause-sure g c = λ step.
    let progress = g.R.Recorded.progress c.self.inside.recorder in
    let lane = c.args.pass.now.lane in
    let seen = ap (λ r. done_in g.I.Input.script lane (g.R.Recorded.progress r).events) c.self.view_is in
    absurd (c.if-made-pass.true (c.made.ensures.is ∙ (sym (counted g.I.Input.project g.I.Input.script progress c.made.ensures.under_way lane) ∙ (seen ∙ sym step))))
