use Rattle.std.proofs.Common.{[], ◌∷◌, map, Option, ℕ, sym, ap, ◌∙◌}
use Rattle.spec_tables.specs.declared.fault.Fault.{Fault}
use Rattle.spec_machine.specs.declared.line.Line.TheVariants.{Fault as FaultLine}
use Rattle.spec_machine.specs.TickLaws.{watchdog_fault}
use Rattle.lgx_record.specs.EventLines.{with_event_lines}
use Rattle.lgx_record.proofs.lines.log_watchdog.Goals as goal

pub returns-in-Some-clause-log : goal.returns-in-Some-clause-log
returns-in-Some-clause-log c = λ s h.
    c.log_line.ensures.log
    ∙ ap (λ (f : Fault). with_event_lines c.args.log.now c.args.at (FaultLine f ∷ [])) (c.task_fault.ensures s h)
    ∙ ap (λ (o : Option ℕ). with_event_lines c.args.log.now c.args.at (map FaultLine (watchdog_fault s o))) (sym c.in-Some.is)
