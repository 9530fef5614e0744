-- The tags of as many bits as were passed.
use Rattle.std.proofs.Common.{ℕ, List, ◌++◌, take}
use Rattle.lgx_xref.specs.TagSets.{AreTagsOf}
use Rattle.lgx_xref.proofs.tag_set.TagSet.add_bits.Given as goal

abbrev pub invariant-loop-bit : goal.invariant-loop-bit
invariant-loop-bit l =
    (before : List ℕ) → AreTagsOf l.spans before l.fn.self → AreTagsOf l.spans (before ++ take l.bit-index l.bits) l.self
