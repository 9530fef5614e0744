-- What is left of the lines of a cross reference while they are handed out.
use Rattle.std.specs.Prelude.{ℕ, List, [], ◌∷◌, ◌++◌, map, flat_map, drop}
use Rattle.spec_machine.specs.Project.{Project}
use Rattle.lgx_xref.specs.Indexes.{tag_numbers}
use Rattle.cmd_xref.specs.XrefText.{tag_lines}

-- all but n of the first tag's lines, and all of the others'
abbrev pub left_of : List (List (List ℕ)) → ℕ → List (List ℕ)
left_of [] n = []
left_of (lines ∷ more) n = drop n lines ++ flat_map (λ ls. ls) more

-- the lines without those of the first `tags` tags and n of the next
abbrev pub lines_left : Project → ℕ → ℕ → List (List ℕ)
lines_left p tags n = left_of (drop tags (map (tag_lines p) (tag_numbers p))) n
