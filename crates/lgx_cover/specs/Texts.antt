-- The text of the counts: a line for each instruction that was executed, and the line `end`.
use Rattle.std.specs.Prelude.{ℕ, List, [], ◌∷◌, ◌++◌, flat_map, codes, decimal, Bool, ◌&&◌, nat_eq, if◌then◌else◌}
use Rattle.std.specs.List.{range_with_len}
use Rattle.spec_machine.specs.declared.event.Event.{Event}
use Rattle.spec_machine.specs.Project.{Project}
use Rattle.spec_text.specs.TextLines.{line_of}
use Rattle.lgx_engine.specs.declared.place.Execution.{Execution}
use Rattle.lgx_cover.specs.declared.version.Version.{Version}
use Rattle.lgx_cover.specs.declared.row.Counts.{Counts}
use Rattle.lgx_cover.specs.Executions.{Occurrence, begins, executions}
use Rattle.lgx_cover.specs.Counts.{once, in_version, in_routine, counts, routines_end, places_end, falling}

-- ---- a line

-- the numbers of the program, of the version and of the routine, how much code is left, and the two counts
abbrev pub count_words : Version → ℕ → ℕ → Counts → List (List ℕ)
count_words v r l c =
    decimal v.program ∷ decimal v.number ∷ decimal r ∷ decimal l ∷ decimal c.with_true ∷ decimal c.with_false ∷ []

unfoldable pub count_line : Version → ℕ → ℕ → Counts → List ℕ
count_line v r l c = line_of (count_words v r l c)

-- the instruction was never executed
abbrev pub is_none : Counts → Bool
is_none c = nat_eq c.with_true 0 && nat_eq c.with_false 0

-- the line of an instruction, if it was executed
abbrev pub place_text : Version → ℕ → ℕ → Counts → List ℕ
place_text v r l c = if is_none c then [] else count_line v r l c

-- ---- all lines

-- those of a routine's executions, in the order of its code
abbrev pub routine_text : Version → ℕ → List Execution → List ℕ
routine_text v r xs = flat_map (λ l. place_text v r l (counts l xs)) (falling (places_end xs))

-- those of a version's executions, routine by routine
abbrev pub version_text : Version → List Execution → List ℕ
version_text v xs = flat_map (λ r. routine_text v r (in_routine r xs)) (range_with_len 0 (routines_end xs))

abbrev pub end_text : List ℕ
end_text = codes "end\n"

-- those of executions, version by version
abbrev pub counts_text : List Version → List Occurrence → List ℕ
counts_text versions all = flat_map (λ v. version_text v (in_version v all)) versions ++ end_text

-- how often each instruction was executed by the run of a journal
abbrev pub cover_text : Project → List Event → List ℕ
cover_text project events = counts_text (once (begins project events)) (executions project events)
