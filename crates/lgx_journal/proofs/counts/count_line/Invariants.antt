use Rattle.std.proofs.Common.{◌≡◌, ◌<◌, ◌≤◌, ◌^◌, true, take}
use Rattle.std.specs.Str.{all_ascii_digits}
use Rattle.spec_text.specs.TextLines.{value_of}
use Rattle.lgx_journal.proofs.counts.count_line.Given as goal

abbrev pub invariant-loop-i : goal.invariant-loop-i
invariant-loop-i l = record {
  few : l.i ≤ 9;
  small : l.count < 10 ^ l.i;
  digits : all_ascii_digits (take l.i l.text) ≡ true;
  value : l.count ≡ value_of (take l.i l.text);
}
