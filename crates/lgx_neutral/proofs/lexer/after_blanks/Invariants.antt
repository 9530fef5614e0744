use Rattle.std.proofs.Common.{length, ◌-◌, ◌≡◌, ◌≤◌, Bool, [], drop}
use Rattle.lgx_rung.specs.Tokens.{tokens_from}
use Rattle.lgx_neutral.proofs.lexer.after_blanks.Given as goal

abbrev pub invariant-loop-at : goal.invariant-loop-at
invariant-loop-at l = record {
  ahead : l.from ≤ l.at;
  within : l.at ≤ length l.text;
  same : (inside : Bool) → tokens_from (drop l.from l.text) inside l.from [] ≡ tokens_from (drop l.at l.text) inside l.at [];
}

abbrev pub decreases-loop-at : goal.decreases-loop-at
decreases-loop-at l = length l.text - l.at
