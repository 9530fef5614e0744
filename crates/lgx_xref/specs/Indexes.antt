-- The cross reference of a project.
use Rattle.std.specs.Prelude.{ℕ, List, length, map}
use Rattle.std.specs.List.{range_with_len}
use Rattle.spec_machine.specs.Project.{Project}
use Rattle.spec_language.specs.TagSpans.{spans_of}
use Rattle.spec_uses.specs.Uses.{writers, readers}
use Rattle.lgx_xref.specs.Indexed.{Index}

-- the numbers of its tags
abbrev pub tag_numbers : Project → List ℕ
tag_numbers p = range_with_len 0 (length (spans_of p.tags))

-- for each tag its writers and its readers
abbrev pub index_of : Project → Index
index_of p = record { writers = map (writers p) (tag_numbers p); readers = map (readers p) (tag_numbers p) }
