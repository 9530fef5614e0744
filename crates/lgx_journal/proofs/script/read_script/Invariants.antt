use Rattle.std.proofs.Common.{◌≡◌, ◌+◌, ◌≤◌, length}
use Rattle.spec_text.specs.TextLines.{lines}
use Rattle.spec_text.specs.ScriptText.{script_from, script_of}
use Rattle.lgx_journal.proofs.script.read_script.Given as goal

abbrev pub invariant-loop-line : goal.invariant-loop-line
invariant-loop-line l = record {
  same : script_from (l.number + 1) (lines l.rest) ≡ script_of l.bytes;
  number : l.number + length l.rest ≤ length l.bytes;
}

abbrev pub decreases-loop-line : goal.decreases-loop-line
decreases-loop-line l = length l.rest
