-- The text of `xref P`: who writes and who reads each tag of a project.
use Rattle.std.specs.Prelude.{ℕ, List, [], ◌∷◌, ◌++◌, map, flat_map, slice_get, Some, None, codes, decimal}
use Rattle.std.specs.List.{concat}
use Rattle.lgx_rung.specs.Mnemonics.{text_of}
use Rattle.spec_language.specs.declared.tag.Scope.{Scope}
use Rattle.spec_language.specs.declared.tag.Scope.TheVariants.{Controller, Program}
use Rattle.spec_machine.specs.Project.{Project, ProgramText}
use Rattle.spec_text.specs.TextLines.{line_of}
use Rattle.spec_text.specs.ReportText.{name}
use Rattle.spec_language.specs.TagSpans.{tag_names}
use Rattle.spec_uses.specs.declared.uses.Use.{Use}
use Rattle.spec_uses.specs.Uses.{span_at, writers, readers}
use Rattle.lgx_xref.specs.Indexes.{tag_numbers}

-- ---- names

abbrev pub program_name : List ProgramText → ℕ → List ℕ
program_name programs n = name (map (λ q. q.name) programs) n

-- the names of the routines of a program by its number; none if there is no such program
abbrev pub routine_names : List ProgramText → ℕ → List (List ℕ)
routine_names programs n = elim (slice_get programs n) [ None ↦ [] | Some q ↦ map (λ r. r.name) q.routines ]

abbrev pub routine_name : List ProgramText → ℕ → ℕ → List ℕ
routine_name programs n r = name (routine_names programs n) r

-- before the name of a program's tag are `Program:`, the program and a dot
abbrev pub scope_prefix : List ProgramText → Scope → List ℕ
scope_prefix programs Controller = []
scope_prefix programs (Program n) = codes "Program:" ++ program_name programs n ++ codes "."

-- tag k with its scope, as the project has it
abbrev pub full_name : Project → ℕ → List ℕ
full_name p k = scope_prefix p.programs (span_at p.tags k).scope ++ name (tag_names p.tags) k

-- ---- lines

abbrev pub name_line : Project → ℕ → List ℕ
name_line p k = line_of (codes "tag" ∷ full_name p k ∷ [])

-- after two spaces what the instruction does, its place and its mnemonic
abbrev pub use_line : List ProgramText → List ℕ → Use → List ℕ
use_line programs does u =
    codes "  " ++ line_of (does ∷ program_name programs u.program ∷ routine_name programs u.program u.routine ∷ decimal u.rung ∷ decimal u.ins ∷ text_of u.op ∷ [])

-- a tag's writers, and then its readers
abbrev pub use_lines : List ProgramText → List Use → List Use → List (List ℕ)
use_lines programs ws rs = map (use_line programs (codes "write")) ws ++ map (use_line programs (codes "read")) rs

-- the line of tag k, and those of its uses
abbrev pub tag_lines : Project → ℕ → List (List ℕ)
tag_lines p k = name_line p k ∷ use_lines p.programs (writers p k) (readers p k)

-- the lines of all tags, in the order of the layout
unfoldable pub xref_text : Project → List ℕ
xref_text p = concat (flat_map (tag_lines p) (tag_numbers p))
