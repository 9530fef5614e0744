use Rattle.std.proofs.Common.{◌≡◌, map, take}
use Rattle.lgx_types.specs.Outlines.{outline}
use Rattle.lgx_types.specs.Tables.{places_from}
use Rattle.lgx_types.proofs.table.all_places.Given as goal

abbrev pub invariant-loop-i : goal.invariant-loop-i
invariant-loop-i l = l.all.items ≡ map (λ d. places_from l.bytes 0 (outline l.resolved d.members)) (take l.i l.resolved)
