-- The codes so far are those of the first routines.
use Rattle.std.proofs.Common.{take, map}
use Rattle.lgx_prog.specs.Search.{AreFlat}
use Rattle.lgx_edit.specs.Texts.{base_of}
use Rattle.lgx_edit.proofs.fresh.flat_routines.Given as goal

abbrev pub invariant-loop-routine : goal.invariant-loop-routine
invariant-loop-routine l = AreFlat l.flats.items (take l.routine-index (map (λ r. r.checked) (map base_of l.fn.routines)))
