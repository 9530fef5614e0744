use Rattle.std.proofs.Common.{◌≡◌, ◌++◌}
use Rattle.lgx_gen.specs.Listed.{listed, numbered}
use Rattle.lgx_gen.proofs.pieces.push_listed.Given as goal

abbrev pub invariant-loop-number : goal.invariant-loop-number
invariant-loop-number l = l.text.items ≡ l.fn.text.items ++ listed (numbered l.before l.after) l.number
