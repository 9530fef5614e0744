use Rattle.std.proofs.Common.{rules, ◌≡◌, ◌∙◌}
use Rattle.std.proofs.lemmas.Bool.{and_from}
use Rattle.spec_text.specs.TextLines.{line_of}
use Rattle.spec_text.specs.JournalText.{event_words}
use Rattle.lgx_journal.specs.Written.{event_run}
use Rattle.lgx_journal.proofs.TextsBack.{line_reading}
use Rattle.lgx_journal.proofs.write.write_event.Goals as goal

pub returns-clause-one_reading : goal.returns-clause-one_reading
returns-clause-one_reading c place run is e =
    let line : c.push_event.new.text.items ≡ line_of (event_words c.args.event.now c.args.count) = search rules in
    line_reading (event_run c.args.event.now c.args.count) run (and_from _ _ c.in_ok-push_event.ensures.kept place) is (e ∙ line)
