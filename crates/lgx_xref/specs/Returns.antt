-- The tags to which the calls of each routine return values.
use Rattle.std.specs.Prelude.{ℕ, ◌<◌, List, [], length, filter, flat_map, slice_index_or}
use Rattle.lgx_rung.specs.declared.ins.Ins.{Ins}
use Rattle.spec_language.specs.declared.span.TagSpan.{TagSpan}
use Rattle.spec_uses.specs.Uses.{is_call_of}
use Rattle.spec_uses.specs.Written.{bits_written}
use Rattle.lgx_xref.specs.TagSets.{AreTagsOf}

-- the bits of the returns of every JSR among these that names this routine
abbrev pub returned_by : ℕ → List Ins → List ℕ
returned_by r is = flat_map bits_written (filter (is_call_of r) is)

-- for each routine the tags that have these bits
abbrev pub AreReturnsIn : List TagSpan → List Ins → List (List ℕ) → Type 0
AreReturnsIn spans is returns =
    (r : ℕ) → r < length returns → AreTagsOf spans (returned_by r is) (slice_index_or returns r [])
