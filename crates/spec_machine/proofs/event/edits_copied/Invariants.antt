use Rattle.std.proofs.Common.{◌≡◌, take}
use Rattle.spec_machine.proofs.event.edits_copied.Given as goal

abbrev pub invariant-loop-edit : goal.invariant-loop-edit
invariant-loop-edit l = l.copy.items ≡ take l.edit-index l.edits
