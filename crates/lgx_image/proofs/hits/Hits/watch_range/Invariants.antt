use Rattle.std.proofs.Common.{◌≡◌, ℕ, ◌-◌, ◌<◌, ◌≤◌, true}
use Rattle.lgx_image.specs.Grains.{is_marked, word_of, watch_range}
use Rattle.lgx_image.proofs.hits.Hits.watch_range.Given as goal

abbrev pub invariant-loop-byte : goal.invariant-loop-byte
invariant-loop-byte l = record {
  watched : l.self.watched ≡ watch_range l.initial.self.watched l.at (l.byte - l.at);
  all : (b : ℕ) → l.at ≤ b → b < l.byte → is_marked l.self.watched (word_of b) ≡ true;
  hits : l.self.hits ≡ l.initial.self.hits;
}
