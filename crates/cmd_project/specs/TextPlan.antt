-- `text P`: the rungs of a project.
use Rattle.std.specs.Prelude.{ℕ, List, [], ◌∷◌, ◌++◌, flat_map, codes}
use Rattle.lgx_rung.specs.Tree.{Source}
use Rattle.lgx_rung.specs.Text.{canon}
use Rattle.spec_machine.specs.Project.{Project, ProgramText, RoutineText}
use Rattle.spec_text.specs.TextLines.{line_of}
use Rattle.lgx_answer.specs.declared.status.Verdict.TheVariants as verdict
use Rattle.lgx_answer.specs.Plan.{Plan, Say, Read, only}
use Rattle.lgx_judge.specs.Plans.{on_project}

-- a rung in its canonical spelling
abbrev pub rung_line : Source → List ℕ
rung_line rung = canon rung ++ 10 ∷ []

abbrev pub rung_lines : List Source → List ℕ
rung_lines rungs = flat_map rung_line rungs

abbrev pub routine_head : List ℕ → List ℕ → List ℕ
routine_head program routine = line_of (codes "program" ∷ program ∷ codes "routine" ∷ routine ∷ [])

-- a line with the names of the routine and its program, and then its rungs
abbrev pub routine_lines : List ℕ → RoutineText → List ℕ
routine_lines program r = routine_head program r.name ++ rung_lines r.source

abbrev pub program_lines : ProgramText → List ℕ
program_lines q = flat_map (routine_lines q.name) q.routines

unfoldable pub text_lines : Project → List ℕ
text_lines p = flat_map program_lines p.programs

-- ---- the plan

abbrev pub text_judged : List ℕ → Plan
text_judged = on_project (λ project. Say verdict.Ok (only (text_lines project)))

-- the file of this name is read, and its rungs are written if it is a project
abbrev pub text_plan : List ℕ → Plan
text_plan name = Read name text_judged
