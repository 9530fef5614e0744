-- The names of the routines so far.
use Rattle.std.proofs.Common.{◌≡◌, map, take}
use Rattle.lgx_edit.specs.Texts.{base_of}
use Rattle.lgx_edit.proofs.draft.names.Given as goal

abbrev pub invariant-loop-routine : goal.invariant-loop-routine
invariant-loop-routine l = l.names.items ≡ map (λ r. r.name) (map base_of (take l.routine-index l.routines))
