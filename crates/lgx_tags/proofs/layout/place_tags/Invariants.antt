use Rattle.std.proofs.Common.{◌≡◌, ◌++◌, drop}
use Rattle.lgx_tags.specs.Layouts.{place_tags, place_tags_end}
use Rattle.lgx_tags.proofs.layout.place_tags.Given as goal

abbrev pub invariant-loop-tag : goal.invariant-loop-tag
invariant-loop-tag l = (l.laid.items ++ place_tags l.types l.at (drop l.tag-index l.order) ≡ place_tags l.types 0 l.order) × (place_tags_end l.types l.at (drop l.tag-index l.order) ≡ place_tags_end l.types 0 l.order)
