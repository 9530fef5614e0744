use Rattle.std.proofs.Common.{◌≡◌, ◌++◌, drop, None}
use Rattle.lgx_picture.specs.Marks.{strokes}
use Rattle.lgx_picture.proofs.strokes.push_strokes.Given as goal

abbrev pub invariant-loop-number : goal.invariant-loop-number
invariant-loop-number l =
    l.text.items ++ strokes l.scale l.top l.after l.before (drop l.number l.marks) ≡ l.initial.text.items ++ strokes l.scale l.top l.after None l.marks
