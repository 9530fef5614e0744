use Rattle.std.proofs.Common.{◌≡◌, ◌+◌, ◌≤◌, length}
use Rattle.spec_base.specs.Pieces.{pieces}
use Rattle.lgx_audit.specs.TraceTable.{AreInTable}
use Rattle.lgx_audit.specs.TraceReading.{trace_from, trace_of}
use Rattle.lgx_audit.specs.Answers.{after_events}
use Rattle.lgx_audit.proofs.read.read_lines.Given as goal

-- what is left goes on to the same answer
abbrev pub invariant-loop-line : goal.invariant-loop-line
invariant-loop-line l = record {
  same : after_events l.trace.items (trace_from (l.number + 1) l.table (pieces 10 l.rest)) ≡ trace_of l.table l.bytes;
  known : AreInTable l.table l.trace.items;
  number : l.number + length l.rest ≤ length l.bytes;
}

abbrev pub decreases-loop-line : goal.decreases-loop-line
decreases-loop-line l = length l.rest
