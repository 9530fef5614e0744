use Rattle.std.proofs.Common.{◌≡◌, ◌+◌, ◌≤◌, length}
use Rattle.spec_text.specs.TextLines.{lines}
use Rattle.spec_text.specs.ScriptText.{lanes_from}
use Rattle.lgx_journal.proofs.script.read_lanes.Given as goal

abbrev pub invariant-loop-line : goal.invariant-loop-line
invariant-loop-line l = record {
  same : lanes_from (l.number + 1) l.draft (lines l.rest) ≡ lanes_from (l.first + 1) l.initial.draft (lines l.text);
  number : l.number + length l.rest ≤ l.first + length l.text;
}

abbrev pub decreases-loop-line : goal.decreases-loop-line
decreases-loop-line l = length l.rest
