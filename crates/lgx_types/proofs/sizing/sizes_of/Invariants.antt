use Rattle.std.proofs.Common.{◌≡◌, map, take}
use Rattle.lgx_types.specs.Sizing.{size_of_visit}
use Rattle.lgx_types.proofs.sizing.sizes_of.Given as goal

abbrev pub invariant-loop-i : goal.invariant-loop-i
invariant-loop-i l = l.sizes.items ≡ map size_of_visit (take l.i l.visits)
