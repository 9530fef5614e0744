use Rattle.std.proofs.Common.{IsTrue, sym, ◌∙◌, arith}
use Rattle.spec_text.specs.JournalText.{is_allowed, with_run}
use Rattle.lgx_journal.specs.Counts.{counted_event}
use Rattle.lgx_journal.specs.Written.{event_run}
use Rattle.lgx_journal.proofs.ReadRuns.{counted_on, counted_more}
use Rattle.lgx_journal.proofs.read.read_singles.Goals as goal

pub singles-preserved : goal.singles-preserved
singles-preserved c =
    let run = event_run (counted_event c.in-Some.counted) 1 in
    let t = c.singles.tally in
    let u = c.take_count.new.self in
    let es = c.singles.journal.events in
    let more = c.add_counted.new.self.events in
    let allowed : IsTrue (is_allowed (with_run t run)) = sym c.take_count.ensures.allowed ∙ c.if-not-take_count.false in
    let counted = c.take_count.ensures.counted c.if-not-take_count.false in
    record {
      same = counted_on es c.args.journal.now.events more c.singles.number t u c.args.tally.now c.args.text.now c.singles.rest.now c.in-Some.after.now run c.in-Some.ensures.first allowed c.add_counted.ensures.events counted c.singles.invariant.same;
      size = counted_more t u run es more c.singles.invariant.size counted c.add_counted.ensures.events;
      number = omega (arith, c.in-Some.ensures.shorter);
    }
