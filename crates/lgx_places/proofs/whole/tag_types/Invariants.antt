use Rattle.std.proofs.Common.{◌≡◌, take}
use Rattle.lgx_places.specs.WholeTags.{tag_types}
use Rattle.lgx_places.proofs.whole.tag_types.Given as goal

abbrev pub invariant-loop-i : goal.invariant-loop-i
invariant-loop-i l = l.list.items ≡ tag_types l.types (take l.i l.tags)
