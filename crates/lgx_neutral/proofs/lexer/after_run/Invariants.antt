use Rattle.std.proofs.Common.{length, ◌-◌, ◌≡◌, ◌≤◌, [], drop, reverse, slice_range, IsTrue}
use Rattle.std.specs.List.{list_all}
use Rattle.lgx_rung.specs.Tokens.{in_run, tokens_from}
use Rattle.lgx_neutral.proofs.lexer.after_run.Given as goal

abbrev pub invariant-loop-at : goal.invariant-loop-at
invariant-loop-at l = record {
  ahead : l.from ≤ l.at;
  within : l.at ≤ length l.text;
  all : IsTrue (list_all (in_run l.inside) (slice_range l.text l.from l.at));
  same : tokens_from (drop l.from l.text) l.inside l.from [] ≡ tokens_from (drop l.at l.text) l.inside l.at (reverse (slice_range l.text l.from l.at));
}

abbrev pub decreases-loop-at : goal.decreases-loop-at
decreases-loop-at l = length l.text - l.at
