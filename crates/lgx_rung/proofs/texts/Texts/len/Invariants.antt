-- The commas that were passed are counted.
use Rattle.std.proofs.Common.{◌≡◌, ◌≤◌, ◌+◌, length, drop}
use Rattle.spec_base.specs.Pieces.{pieces}
use Rattle.lgx_rung.proofs.texts.Texts.len.Given as goal

abbrev pub invariant-loop-byte : goal.invariant-loop-byte
invariant-loop-byte l = record {
  counted : l.count + length (pieces 44 (drop l.byte-index l.bytes)) ≡ length (pieces 44 l.bytes) + 1;
  few : l.count ≤ l.byte-index + 1;
}
