use Rattle.std.proofs.Common.{ap, ◌∙◌}
use Rattle.serde_json.specs.View.{view}
use Rattle.spec_project.specs.Reading.{value_of}
use Rattle.lgx_project.proofs.Lines.{value_ended}
use Rattle.lgx_project.proofs.newest.line_of.Goals as goal

pub returns-clause-reads_back : goal.returns-clause-reads_back
returns-clause-reads_back c =
    let written = c.in_ok-text.ensures in
    ap value_of c.in_ok-push.ensures.items ∙ value_ended c.in_ok-text.text.items (view c.args.value.now) written.utf8 (written.reads_back c.requires)
