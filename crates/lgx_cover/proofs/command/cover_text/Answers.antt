use Rattle.std.proofs.Common.{ap, ◌∙◌}
use Rattle.lgx_cover.specs.declared.tables.Tables.{Tables}
use Rattle.lgx_cover.specs.Executions.{begins, executions}
use Rattle.lgx_cover.specs.RowTexts.{tables_text}
use Rattle.lgx_cover.proofs.Texts.{tables_say}
use Rattle.lgx_cover.proofs.command.cover_text.Goals as goal

pub returns : goal.returns
returns c =
    let project = c.args.project in
    let events = c.args.journal.now.events in
    let t = c.in_ok-coverage.coverage.tables in
    let kept = c.in_ok-coverage.ensures.tables in
    c.of.ensures
    ∙ (c.in_ok-text.ensures
    ∙ (ap tables_text (c.as_slice.ensures ∙ ap (λ (ts : Tables). ts.tables.items) c.tables.ensures)
    ∙ tables_say t.tables.items t.current.items (begins project events) (executions project events) kept))
