use Rattle.std.proofs.Common.{inl, inr, arith}
use Rattle.lgx_image.proofs.grain.Marks.mark_from.Goals as goal

pub returns-clause-marked : goal.returns-clause-marked
returns-clause-marked c = λ g above below. c.loop-grain.invariant.marked g above (omega arith)

pub returns-clause-others : goal.returns-clause-others
returns-clause-others c = λ g apart. c.loop-grain.invariant.others g (elim apart [ inl before ↦ inl before | inr after ↦ inr (omega (arith, c.requires.order)) ])
