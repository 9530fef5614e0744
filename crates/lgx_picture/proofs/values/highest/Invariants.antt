use Rattle.std.proofs.Common.{◌≡◌, drop, fold, max}
use Rattle.lgx_picture.specs.Marks.{highest}
use Rattle.lgx_picture.proofs.values.highest.Given as goal

abbrev pub invariant-loop-mark : goal.invariant-loop-mark
invariant-loop-mark l = fold (λ level m. max level m.level) l.level (drop l.mark-index l.marks) ≡ highest l.fn.start l.marks
