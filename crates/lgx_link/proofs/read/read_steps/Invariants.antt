use Rattle.std.proofs.Common.{◌≡◌, ◌+◌, ◌≤◌, length}
use Rattle.spec_text.specs.TextLines.{lines}
use Rattle.spec_link.specs.LinkText.{no_counts, steps_from}
use Rattle.lgx_link.specs.Reading.{after_steps}
use Rattle.lgx_link.proofs.read.read_steps.Given as goal

abbrev pub invariant-loop-line : goal.invariant-loop-line
invariant-loop-line l = record {
  same : after_steps l.steps.items (steps_from (l.number + 1) l.reader (lines l.rest)) ≡ steps_from (l.first + 1) no_counts (lines l.text);
  number : l.number + length l.rest ≤ l.first + length l.text;
}

abbrev pub decreases-loop-line : goal.decreases-loop-line
decreases-loop-line l = length l.rest
