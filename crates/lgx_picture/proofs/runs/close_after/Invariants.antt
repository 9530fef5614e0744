use Rattle.std.proofs.Common.{◌≡◌, ◌+◌, drop}
use Rattle.lgx_picture.specs.Runs.{close_after}
use Rattle.lgx_picture.proofs.runs.close_after.Given as goal

abbrev pub invariant-loop-number : goal.invariant-loop-number
invariant-loop-number l =
    close_after l.before (drop l.number l.marks) + l.number ≡ close_after l.fn.place l.marks
