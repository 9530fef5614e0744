use Rattle.std.proofs.Common.{◌≡◌, drop, fold, min}
use Rattle.lgx_picture.specs.Marks.{lowest}
use Rattle.lgx_picture.proofs.values.lowest.Given as goal

abbrev pub invariant-loop-mark : goal.invariant-loop-mark
invariant-loop-mark l = fold (λ level m. min level m.level) l.level (drop l.mark-index l.marks) ≡ lowest l.fn.start l.marks
