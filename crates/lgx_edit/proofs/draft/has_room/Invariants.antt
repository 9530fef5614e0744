-- What is left after all routines is what is left now after the others.
use Rattle.std.proofs.Common.{◌≡◌, ◌+◌, ◌-◌, drop}
use Rattle.spec_base.specs.declared.limits.TheConstants.{MAX_PROGRAM_INSTRUCTIONS}
use Rattle.spec_machine.specs.Edits.{instruction_count}
use Rattle.lgx_edit.specs.Drafts.{routines_with}
use Rattle.lgx_edit.proofs.draft.has_room.Given as goal

abbrev pub invariant-loop-k : goal.invariant-loop-k
invariant-loop-k l =
    l.left - instruction_count (drop l.k (routines_with l.changed l.text l.routines))
    ≡ MAX_PROGRAM_INSTRUCTIONS + 1 - instruction_count (routines_with l.changed l.text l.routines)
