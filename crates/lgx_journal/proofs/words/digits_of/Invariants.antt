use Rattle.std.proofs.Common.{◌≡◌, ◌<◌, ◌+◌, ◌-◌, ◌*◌, ◌^◌, drop, fold}
use Rattle.std.specs.Str.{all_ascii_digits}
use Rattle.spec_text.specs.TextLines.{value_of}
use Rattle.lgx_journal.proofs.words.digits_of.Given as goal

abbrev pub invariant-loop-digit : goal.invariant-loop-digit
invariant-loop-digit l = record {
  small : l.number < 10 ^ l.digit-index;
  value : fold (λ n c. n * 10 + (c - 48)) l.number (drop l.digit-index l.digits) ≡ value_of l.digits;
  digits : all_ascii_digits (drop l.digit-index l.digits) ≡ all_ascii_digits l.digits;
}
