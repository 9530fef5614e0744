use Rattle.std.proofs.Common.{◌≡◌, ◌+◌, ◌≤◌, length}
use Rattle.spec_text.specs.TextLines.{lines}
use Rattle.spec_explore.specs.QuestionText.{question_from}
use Rattle.lgx_question.proofs.read.read_lines.Given as goal

abbrev pub invariant-loop-line : goal.invariant-loop-line
invariant-loop-line l = record {
  same : question_from l.names (l.number + 1) l.draft (lines l.rest) ≡ question_from l.names 1 l.initial.draft (lines l.text);
  number : l.number + length l.rest ≤ length l.text;
}

abbrev pub decreases-loop-line : goal.decreases-loop-line
decreases-loop-line l = length l.rest
