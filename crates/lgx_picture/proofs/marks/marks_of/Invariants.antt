use Rattle.std.proofs.Common.{◌≡◌, ◌++◌, drop}
use Rattle.lgx_picture.specs.Marks.{marks_of}
use Rattle.lgx_picture.proofs.marks.marks_of.Given as goal

abbrev pub invariant-loop-entry : goal.invariant-loop-entry
invariant-loop-entry l =
    l.marks.items ++ marks_of l.scale l.lane (drop l.entry-index l.entries) ≡ marks_of l.scale l.lane l.entries
