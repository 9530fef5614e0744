-- What is left of the changes is put on the places as they are now.
use Rattle.std.proofs.Common.{◌≡◌, map, drop}
use Rattle.std.specs.Prelude.{fold, filter_map}
use Rattle.spec_machine.specs.Edits.{change_in}
use Rattle.lgx_edit.specs.Texts.{accepted_of}
use Rattle.lgx_edit.specs.Merging.{with_change}
use Rattle.lgx_edit.proofs.merge.put_all.Given as goal

abbrev pub invariant-loop-kept : goal.invariant-loop-kept
invariant-loop-kept l =
    fold with_change l.places (filter_map (change_in l.routine) (map accepted_of (drop l.kept-index l.edits)))
    ≡ fold with_change l.fn.places (filter_map (change_in l.routine) (map accepted_of l.edits))
