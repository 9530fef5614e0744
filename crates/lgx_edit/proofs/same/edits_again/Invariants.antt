-- Those before are copied.
use Rattle.std.proofs.Common.{◌≡◌, take}
use Rattle.lgx_edit.proofs.same.edits_again.Given as goal

abbrev pub invariant-loop-edit : goal.invariant-loop-edit
invariant-loop-edit l = l.list.items ≡ take l.edit-index l.edits
