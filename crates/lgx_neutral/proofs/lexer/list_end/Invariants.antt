use Rattle.std.proofs.Common.{length, ◌-◌}
use Rattle.lgx_neutral.proofs.Instructions.{Progress}
use Rattle.lgx_neutral.proofs.lexer.list_end.Given as goal

abbrev pub invariant-loop-at : goal.invariant-loop-at
invariant-loop-at l = Progress l.text l.from l.at

abbrev pub decreases-loop-at : goal.decreases-loop-at
decreases-loop-at l = length l.text - l.at
