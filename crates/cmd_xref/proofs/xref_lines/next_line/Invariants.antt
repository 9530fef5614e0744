use Rattle.std.proofs.Common.{◌≡◌, ◌-◌, length}
use Rattle.spec_language.specs.TagSpans.{spans_of}
use Rattle.cmd_xref.specs.XrefLeft.{lines_left}
use Rattle.cmd_xref.proofs.xref_lines.next_line.Given as goal

abbrev pub invariant-loop-tag : goal.invariant-loop-tag
invariant-loop-tag l = lines_left l.fn.project l.initial.tag l.initial.at ≡ lines_left l.fn.project l.tag l.at

abbrev pub decreases-loop-tag : goal.decreases-loop-tag
decreases-loop-tag l = length (spans_of l.fn.project.tags) - l.tag
