use Rattle.std.proofs.Common.{sym, ◌∙◌, subst}
use Rattle.lgx_core.specs.Represents.{StandsFor}
use Rattle.lgx_judge.proofs.Reports.{report_from_start}
use Rattle.cmd_replay.proofs.report_lines.report_of.Goals as goal

pub returns : goal.returns
returns c =
    let h = c.in_ok-run.ensures.run in
    let project = c.args.project in
    let events = c.args.journal.now.events in
    let stands = subst (λ v. StandsFor project events v) (sym c.controller.ensures) h.controller in
    let end = c.end_of-end.ensures project events stands (c.steps.ensures ∙ h.steps) in
    report_from_start c.in_ok-run.run'.names c.replayed.new.log c.end_of-end.result project events h.names c.in_ok-run.ensures.log end
