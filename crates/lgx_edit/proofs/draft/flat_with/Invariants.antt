-- The codes so far are those of the first routines.
use Rattle.std.proofs.Common.{take, map}
use Rattle.lgx_prog.specs.Search.{AreFlat}
use Rattle.lgx_edit.specs.Drafts.{routines_with}
use Rattle.lgx_edit.proofs.draft.flat_with.Given as goal

abbrev pub invariant-loop-k : goal.invariant-loop-k
invariant-loop-k l = AreFlat l.flats.items (take l.k (map (λ r. r.checked) (routines_with l.changed l.text l.routines)))
