-- As many as were counted were added.
use Rattle.std.proofs.Common.{◌≡◌, ◌++◌, replicate}
use Rattle.lgx_rung.proofs.kinds.OperandKinds.add.Given as goal

abbrev pub invariant-loop : goal.invariant-loop
invariant-loop l = l.self-inside.list.items ≡ l.initial.self-inside.list.items ++ replicate l.counter l.kind
