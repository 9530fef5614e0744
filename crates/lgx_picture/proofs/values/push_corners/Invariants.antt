use Rattle.std.proofs.Common.{◌≡◌, ◌++◌, take}
use Rattle.std.specs.List.{flat_map}
use Rattle.lgx_picture.specs.Marks.{corner}
use Rattle.lgx_picture.proofs.values.push_corners.Given as goal

abbrev pub invariant-loop-mark : goal.invariant-loop-mark
invariant-loop-mark l = l.text.items ≡ l.initial.text.items ++ flat_map (corner l.band) (take l.mark-index l.marks)
