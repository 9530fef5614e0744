use Rattle.lgx_record.proofs.Overlaps.{tick-lines}
use Rattle.lgx_record.proofs.lines.log_tick_faults.Goals as goal

pub returns-clause-log : goal.returns-clause-log
returns-clause-log c = λ s h few mask.
    tick-lines s c.args.report c.args.log.now c.log_watchdog.new.log c.log_overlaps.new.log c.args.at (c.log_watchdog.ensures.log s h) (c.log_overlaps.ensures.log s h) few mask
