use Rattle.std.proofs.Common.{◌≡◌, drop}
use Rattle.spec_language.specs.TagSpans.{spans_of}
use Rattle.lgx_places.specs.WholeTags.{is_one_of}
use Rattle.lgx_places.proofs.whole.is_one_of.Given as goal

abbrev pub invariant-loop-i : goal.invariant-loop-i
invariant-loop-i l = is_one_of l.at l.of (drop l.i (spans_of l.tags.declarations)) (drop l.i l.types) ≡ is_one_of l.at l.of (spans_of l.tags.declarations) l.types
