use Rattle.std.proofs.Common.{IsTrue, sym, ◌∙◌, arith}
use Rattle.spec_text.specs.JournalText.{is_allowed, with_run}
use Rattle.lgx_journal.specs.Counts.{counted_event}
use Rattle.lgx_journal.specs.Written.{event_run}
use Rattle.lgx_journal.proofs.ReadRuns.{counted_on, counted_more}
use Rattle.lgx_journal.proofs.read.read_counts.Goals as goal

pub counts-preserved : goal.counts-preserved
counts-preserved c =
    let run = event_run (counted_event c.in-Some.counted) c.in-Some.count in
    let t = c.counts.tally in
    let u = c.take_count.new.self in
    let es = c.counts.journal.events in
    let more = c.add_counted.new.self.events in
    let allowed : IsTrue (is_allowed (with_run t run)) = sym c.take_count.ensures.allowed ∙ c.if-not-take_count.false in
    let counted = c.take_count.ensures.counted c.if-not-take_count.false in
    record {
      same = counted_on es c.args.journal.now.events more c.counts.number t u c.args.tally.now c.args.text.now c.counts.rest.now c.in-Some.after.now run c.in-Some.ensures.first allowed c.add_counted.ensures.events counted c.counts.invariant.same;
      size = counted_more t u run es more c.counts.invariant.size counted c.add_counted.ensures.events;
      number = omega (arith, c.in-Some.ensures.shorter);
    }
