-- The program on its way.
use Rattle.std.specs.Prelude.{ℕ, List}
use Rattle.lgx_answer.specs.Plan.{Plan}
use Rattle.cmd_explore.specs.declared.command.Explore.{Explore}
use Rattle.cmd_explore.specs.declared.command.Explore.TheVariants.{All, OnProject, OnScript}
use Rattle.cmd_explore.specs.ExplorePlan.{project_read, script_read, question_read}

-- the file that is read next
abbrev pub explore_file : {Progress : Type 0} → Explore Progress → List ℕ
explore_file (All project script question progress) = project.now
explore_file (OnProject project script question progress) = script.now
explore_file (OnScript project script question progress) = question.now

-- what its bytes lead to
abbrev pub explore_next : {Progress : Type 0} → Explore Progress → List ℕ → Plan
explore_next (All project script question progress) bytes = project_read script.now question.now bytes
explore_next (OnProject project script question progress) bytes = script_read question.now project bytes
explore_next (OnScript project script question progress) bytes = question_read project script bytes

-- how many files are read after it
abbrev pub explore_left : {Progress : Type 0} → Explore Progress → ℕ
explore_left (All project script question progress) = 2
explore_left (OnProject project script question progress) = 1
explore_left (OnScript project script question progress) = 0
