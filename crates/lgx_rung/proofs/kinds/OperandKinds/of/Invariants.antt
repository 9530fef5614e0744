-- The kinds that were passed were added.
use Rattle.std.proofs.Common.{◌≡◌, take}
use Rattle.lgx_rung.proofs.kinds.OperandKinds.of.Given as goal

abbrev pub invariant-loop-kind : goal.invariant-loop-kind
invariant-loop-kind l = l.list.items ≡ take l.kind-index l.kinds
