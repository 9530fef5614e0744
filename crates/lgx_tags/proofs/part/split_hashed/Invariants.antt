use Rattle.lgx_tags.proofs.OperandParts.{NoMark}
use Rattle.lgx_tags.proofs.part.split_hashed.Given as goal

abbrev pub invariant-loop-i : goal.invariant-loop-i
invariant-loop-i l = NoMark l.text l.i
