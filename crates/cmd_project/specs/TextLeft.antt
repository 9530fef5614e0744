-- What is left of the text of a project while its lines are handed out.
use Rattle.std.specs.Prelude.{ℕ, zero, suc, List, [], ◌∷◌, ◌++◌, drop, flat_map}
use Rattle.spec_machine.specs.Project.{ProgramText, RoutineText}
use Rattle.cmd_project.specs.declared.lines.RungLine.{RungLine}
use Rattle.cmd_project.specs.TextPlan.{rung_lines, routine_lines, program_lines}

-- of the first item this part, and each other one whole
abbrev pub first_left : {X : Type 0} → (X → List ℕ) → (X → List ℕ) → List X → List ℕ
first_left part whole [] = []
first_left part whole (x ∷ xs) = part x ++ flat_map whole xs

-- a routine without its first n lines, of which the first has its names
abbrev pub routine_left : List ℕ → ℕ → RoutineText → List ℕ
routine_left program zero r = routine_lines program r
routine_left program (suc n) r = rung_lines (drop n r.source)

-- a program without the routines before this place, and the lines of the next before it
abbrev pub program_left : RungLine → ProgramText → List ℕ
program_left p q = first_left (routine_left q.name p.line) (routine_lines q.name) (drop p.routine q.routines)

-- the programs without the first n, and what is gone of the next
abbrev pub programs_left : List ProgramText → ℕ → RungLine → List ℕ
programs_left programs n p = first_left (program_left p) program_lines (drop n programs)
