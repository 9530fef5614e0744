use Rattle.std.proofs.Common.{◌≡◌, ◌+◌, ◌≤◌}
use Rattle.spec_machine.specs.State.{State}
use Rattle.lgx_record.specs.EventLines.{with_event_lines, overlap_lines}
use Rattle.lgx_record.proofs.lines.log_overlaps.Given as goal

abbrev pub invariant-loop-task : goal.invariant-loop-task
invariant-loop-task l = record {
  lines : (s : State) → s.tick ≡ l.at.tick → l.log ≡ with_event_lines l.initial.log l.at (overlap_lines s l.overlapped l.task);
  lost : l.log.lost ≤ l.initial.log.lost + l.task;
}
