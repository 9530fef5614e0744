-- `check P`: how many there are of each part of a project.
use Rattle.std.specs.Prelude.{ℕ, List, [], ◌∷◌, length, sum_by, codes, decimal}
use Rattle.spec_machine.specs.Project.{Project, ProgramText, RoutineText}
use Rattle.spec_text.specs.TextLines.{line_of}
use Rattle.lgx_answer.specs.declared.status.Verdict.TheVariants as verdict
use Rattle.lgx_answer.specs.Plan.{Plan, Say, Read, only}
use Rattle.lgx_judge.specs.Plans.{on_project}

abbrev pub routine_count : List ProgramText → ℕ
routine_count programs = sum_by (λ q. length q.routines) programs

abbrev pub rungs_in : List RoutineText → ℕ
rungs_in routines = sum_by (λ r. length r.source) routines

abbrev pub rung_count : List ProgramText → ℕ
rung_count programs = sum_by (λ q. rungs_in q.routines) programs

-- how many tasks, programs, routines and rungs there are, and how many bytes all tags take
abbrev pub check_words : Project → List (List ℕ)
check_words p =
    codes "ok"
    ∷ codes "tasks" ∷ decimal (length p.tasks)
    ∷ codes "programs" ∷ decimal (length p.programs)
    ∷ codes "routines" ∷ decimal (routine_count p.programs)
    ∷ codes "rungs" ∷ decimal (rung_count p.programs)
    ∷ codes "bytes" ∷ decimal (length p.image)
    ∷ []

unfoldable pub check_line : Project → List ℕ
check_line p = line_of (check_words p)

-- ---- the plan

abbrev pub check_judged : List ℕ → Plan
check_judged = on_project (λ project. Say verdict.Ok (only (check_line project)))

-- the file of this name is read, and its counts are said if it is a project
abbrev pub check_plan : List ℕ → Plan
check_plan name = Read name check_judged
