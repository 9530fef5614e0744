use Rattle.std.proofs.Common.{◌≡◌, ◌+◌, ◌≤◌, length}
use Rattle.spec_text.specs.TextLines.{lines}
use Rattle.spec_link.specs.LinkText.{link_from, link_of}
use Rattle.lgx_link.proofs.read.read_link.Given as goal

abbrev pub invariant-loop-line : goal.invariant-loop-line
invariant-loop-line l = record {
  same : link_from l.a l.b (l.number + 1) (lines l.rest) ≡ link_of l.a l.b l.bytes;
  number : l.number + length l.rest ≤ length l.bytes;
}

abbrev pub decreases-loop-line : goal.decreases-loop-line
decreases-loop-line l = length l.rest
