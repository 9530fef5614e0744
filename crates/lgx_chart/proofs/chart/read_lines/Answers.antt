use Rattle.std.proofs.Common.{sym, ◌∙◌}
use Rattle.lgx_chart.proofs.Lines.{refused_at}
use Rattle.lgx_chart.proofs.chart.read_lines.Goals as goal

pub returns-in-Err-clause-fault : goal.returns-in-Err-clause-fault
returns-in-Err-clause-fault c =
    refused_at _ c.in-Err.error c.loop-line.entries.items c.loop-line.seen c.in-Some.line.now c.loop-line.rest.now c.in-Some.after.now c.loop-line.invariant.same c.in-Some.ensures.some (sym c.in_ok-end.ensures ∙ c.in_default-2.is) c.in-Err.ensures.fault
