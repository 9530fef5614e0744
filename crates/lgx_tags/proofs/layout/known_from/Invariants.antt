use Rattle.std.proofs.Common.{◌≡◌, take, length}
use Rattle.lgx_tags.specs.Layouts.{known_from}
use Rattle.lgx_tags.proofs.layout.known_from.Given as goal

abbrev pub invariant-loop-tag : goal.invariant-loop-tag
invariant-loop-tag l = (l.known.items ≡ known_from l.count (take l.tag-index l.laid)) × (length l.known.items ≡ l.count)
