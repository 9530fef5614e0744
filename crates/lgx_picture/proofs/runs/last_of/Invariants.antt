use Rattle.std.proofs.Common.{◌≡◌, drop}
use Rattle.lgx_picture.specs.Marks.{last_of}
use Rattle.lgx_picture.proofs.runs.last_of.Given as goal

abbrev pub invariant-loop-mark : goal.invariant-loop-mark
invariant-loop-mark l = last_of l.last (drop l.mark-index l.others) ≡ last_of l.fn.first l.others
