use Rattle.std.proofs.Common.{sym, ◌∙◌, subst}
use Rattle.std.specs.Prelude.{IsTrue}
use Rattle.std.specs.List.{list_all}
use Rattle.spec_text.specs.JournalText.{joined}
use Rattle.lgx_core.specs.Represents.{StandsFor}
use Rattle.lgx_journal.specs.Journals.{JournalView}
use Rattle.lgx_journal.specs.Written.{is_kept_run}
use Rattle.lgx_shared.specs.Follows.{journal_of}
use Rattle.cmd_run.proofs.RunTexts.{is_run_text}
use Rattle.cmd_run.proofs.lines.RunLines.of.Goals as goal

pub returns : goal.returns
returns c = λ project script proper follows complete.
    let events = journal_of c.args.recorder in
    let records = follows.records in
    let stands = subst (λ v. StandsFor project events v) (sym c.controller.ensures) records.controller in
    let end = c.end_of-end.ensures project events stands (c.steps.ensures ∙ records.steps) in
    let P : JournalView → Type 0 = λ j. IsTrue (list_all is_kept_run (joined j.events)) in
    is_run_text project script c.args.recorder c.end_of-end.result proper records complete (subst P c.journal.ensures c.show_kept.ensures) end
