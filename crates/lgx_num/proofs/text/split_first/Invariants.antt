use Rattle.spec_base.proofs.Splits.{NoMark}
use Rattle.lgx_num.proofs.text.split_first.Given as goal

abbrev pub invariant-loop-i : goal.invariant-loop-i
invariant-loop-i l = NoMark l.mark l.text l.i
