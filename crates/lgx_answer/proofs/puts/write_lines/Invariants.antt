use Rattle.std.proofs.Common.{◌≡◌}
use Rattle.lgx_answer.specs.Puts.{IsWritten}
use Rattle.lgx_answer.proofs.puts.write_lines.Given as goal

abbrev pub invariant-loop-line : goal.invariant-loop-line
invariant-loop-line g l = record {
  written : IsWritten (g.K.Sink.held l.initial.sink) (g.K.Sink.held l.sink) (g.L.Lines.rest l.initial.lines) (g.L.Lines.rest l.lines);
  unfailed : g.K.Sink.faults l.sink ≡ g.K.Sink.faults l.initial.sink;
}

abbrev pub decreases-loop-line : goal.decreases-loop-line
decreases-loop-line g l = g.L.Lines.left l.lines
