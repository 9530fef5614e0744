-- Those before are copied.
use Rattle.std.proofs.Common.{◌≡◌, take}
use Rattle.lgx_edit.proofs.same.programs_again.Given as goal

abbrev pub invariant-loop-edits : goal.invariant-loop-edits
invariant-loop-edits l = l.list.items ≡ take l.edits-index l.programs
