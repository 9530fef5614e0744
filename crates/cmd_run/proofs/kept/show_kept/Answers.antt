use Rattle.std.proofs.Common.{◌<◌, length, arith}
use Rattle.spec_text.specs.JournalText.{joined}
use Rattle.cmd_run.specs.RunLines.{no_run}
use Rattle.cmd_run.proofs.KeptRuns.{kept_next}
use Rattle.cmd_run.proofs.kept.show_kept.Goals as goal

pub loop-i-preserved : goal.loop-i-preserved
loop-i-preserved c =
    let runs = joined c.args.journal.now.events in
    let below : c.loop-i.i < length runs = omega arith in
    let event = c.event_at.ensures no_run in
    let count = c.count_at.ensures no_run in
    kept_next runs c.loop-i.i no_run c.event_at.result.now c.count_at.result below event count c.loop-i.invariant c.show_event.ensures
