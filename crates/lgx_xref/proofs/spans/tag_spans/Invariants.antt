-- The spans of as many tags as were asked for.
use Rattle.std.proofs.Common.{◌≡◌, take}
use Rattle.spec_language.specs.TagSpans.{spans_of}
use Rattle.lgx_xref.proofs.spans.tag_spans.Given as goal

abbrev pub invariant-loop-number : goal.invariant-loop-number
invariant-loop-number l = l.spans.items ≡ take l.number (spans_of l.tags.declarations)
