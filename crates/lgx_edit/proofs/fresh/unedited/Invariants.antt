-- The routines so far are without edits.
use Rattle.std.proofs.Common.{◌≡◌, map}
use Rattle.lgx_edit.specs.Texts.{routine_of, base_of, merged_of}
use Rattle.lgx_edit.proofs.fresh.unedited.Given as goal

abbrev pub invariant-loop-routine : goal.invariant-loop-routine
invariant-loop-routine l = (map base_of l.edited.items ≡ map routine_of l.yielded) × (map merged_of l.edited.items ≡ map routine_of l.yielded)
