-- Tags before `low` end too early, and tags from `high` on begin too late.
use Rattle.std.proofs.Common.{ℕ, ◌-◌, ◌<◌, ◌≤◌, length}
use Rattle.lgx_xref.specs.Apart.{span_in}
use Rattle.lgx_xref.proofs.spans.tag_with.Given as goal

abbrev pub invariant-loop-low : goal.invariant-loop-low
invariant-loop-low l = record {
  ordered : l.low ≤ l.high;
  within : l.high ≤ length l.spans;
  early : (k : ℕ) → k < l.low → (span_in l.spans k).end ≤ l.byte;
  late : (k : ℕ) → l.high ≤ k → k < length l.spans → l.byte < (span_in l.spans k).start;
}

abbrev pub decreases-loop-low : goal.decreases-loop-low
decreases-loop-low l = l.high - l.low
