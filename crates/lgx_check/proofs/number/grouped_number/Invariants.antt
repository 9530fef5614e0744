use Rattle.std.proofs.Common.{◌≡◌, ◌≤◌, false, drop}
use Rattle.lgx_check.proofs.Digits.{read_from}
use Rattle.lgx_check.proofs.number.grouped_number.Given as goal

abbrev pub invariant-loop-byte : goal.invariant-loop-byte
invariant-loop-byte l = record {
  reads : read_from l.base l.reading (drop l.byte-index l.text) ≡ read_from l.base (record { number = 0; after_digit = false }) l.text;
  small : l.reading.number ≤ 4294967296;
}
