use Rattle.std.proofs.Common.{sym, ◌∙◌, subst}
use Rattle.lgx_core.specs.Represents.{StandsFor}
use Rattle.cmd_replay.proofs.Texts.{counts_told}
use Rattle.cmd_replay.proofs.counts.counts_of.Goals as goal

pub returns : goal.returns
returns c =
    let h = c.in_ok-run.ensures.run in
    let project = c.args.project in
    let events = c.args.journal.now.events in
    let stands = subst (λ v. StandsFor project events v) (sym c.controller.ensures) h.controller in
    let end = c.end_of-end.ensures project events stands (c.steps.ensures ∙ h.steps) in
    counts_told c.args.number c.replayed.new.log c.end_of-end.result project events c.in_ok-run.ensures.log end
