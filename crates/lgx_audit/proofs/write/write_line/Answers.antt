use Rattle.std.proofs.Common.{rules, ◌≡◌}
use Rattle.lgx_audit.specs.TraceText.{event_line}
use Rattle.lgx_audit.proofs.LinesBack.{one_back}
use Rattle.lgx_audit.proofs.write.write_line.Goals as goal

pub returns-clause-back : goal.returns-clause-back
returns-clause-back c table known =
    let line : c.push_line.new.text.items ≡ event_line c.args.event.now = search rules in
    one_back table c.args.event.now c.push_line.new.text.items line c.requires c.in_ok-push_line.ensures.kept known
