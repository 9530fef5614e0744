use Rattle.std.proofs.Common.{◌≡◌, ◌≤◌, length}
use Rattle.spec_base.specs.Pieces.{pieces}
use Rattle.spec_base.specs.declared.limits.TheConstants.{MAX_REPORT_LINES}
use Rattle.lgx_chart.specs.Charts.{chart_from, chart_of}
use Rattle.lgx_chart.specs.Reading.{with_entries}
use Rattle.lgx_chart.proofs.chart.read_lines.Given as goal

abbrev pub invariant-loop-line : goal.invariant-loop-line
invariant-loop-line l = record {
  same : with_entries l.entries.items (chart_from l.seen (pieces 10 l.rest)) ≡ chart_of l.bytes;
  few : l.seen.lines ≤ MAX_REPORT_LINES;
}

abbrev pub decreases-loop-line : goal.decreases-loop-line
decreases-loop-line l = length l.rest
