-- None of the edits before the index takes it.
use Rattle.std.proofs.Common.{◌≡◌, drop}
use Rattle.std.specs.Prelude.{nat_eq, flat_map}
use Rattle.std.specs.List.{list_any}
use Rattle.spec_machine.specs.Edits.{takes}
use Rattle.lgx_edit.proofs.judge.take_rung.Given as goal

abbrev pub invariant-loop-edit : goal.invariant-loop-edit
invariant-loop-edit l = list_any (nat_eq l.rung) (flat_map takes l.edits) ≡ list_any (nat_eq l.rung) (flat_map takes (drop l.edit-index l.edits))
