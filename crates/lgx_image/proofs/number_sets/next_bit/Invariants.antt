use Rattle.std.proofs.Common.{◌≡◌, ℕ, ◌*◌, ◌/◌, ◌<◌, ◌≤◌, false}
use Rattle.lgx_image.specs.Words.{bit_of_words}
use Rattle.lgx_image.proofs.number_sets.next_bit.Given as goal

abbrev pub invariant-loop-at : goal.invariant-loop-at
invariant-loop-at l = record {
  later : l.from / 64 < l.at;
  before : (k : ℕ) → l.from ≤ k → k < 64 * l.at → bit_of_words l.words k ≡ false;
}
