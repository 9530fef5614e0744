use Rattle.std.proofs.Common.{◌≡◌, ℕ, ◌<◌, ◌≤◌, bit_or, get_or, length}
use Rattle.lgx_watch.proofs.bits.join_bits.Given as goal

abbrev pub invariant-loop-at : goal.invariant-loop-at
invariant-loop-at l = record {
  joined : (k : ℕ) → k < l.at → get_or l.words k 0 ≡ bit_or (get_or l.fn.words k 0) (get_or l.more k 0);
  others : (k : ℕ) → l.at ≤ k → get_or l.words k 0 ≡ get_or l.fn.words k 0;
  long : length l.words ≡ length l.fn.words;
}
