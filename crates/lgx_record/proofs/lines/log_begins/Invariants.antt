use Rattle.std.proofs.Common.{◌≡◌, ◌+◌, ◌≤◌, take}
use Rattle.lgx_watch.specs.Kept.{with_lines}
use Rattle.lgx_record.specs.EventLines.{begins_lines}
use Rattle.lgx_record.proofs.lines.log_begins.Given as goal

abbrev pub invariant-loop-i : goal.invariant-loop-i
invariant-loop-i l = record {
  lines : l.log ≡ with_lines l.initial.log (begins_lines l.from.tick l.from.step l.begins.began (take l.i l.begins.steps.items));
  lost : l.log.lost ≤ l.initial.log.lost + l.i;
}
