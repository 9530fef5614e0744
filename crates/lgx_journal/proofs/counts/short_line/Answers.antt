use Rattle.lgx_journal.proofs.ShortLines.{steps_after, ticks_after}
use Rattle.lgx_journal.proofs.counts.short_line.Goals as goal

pub returns-in-Some-clause-first : goal.returns-in-Some-clause-first
returns-in-Some-clause-first c = steps_after c.args.text.now c.in-Some.digits.now c.in_ok-count.after.now c.in_ok-count.count c.in-Some.ensures c.in_ok-count.ensures

pub returns-clause-first : goal.returns-clause-first
returns-clause-first c = ticks_after c.args.text.now c.in_ok-digits.digits.now c.in_ok-count-2.after.now c.in_ok-count-2.count c.in_ok-digits.ensures c.in_ok-count-2.ensures
