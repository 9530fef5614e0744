-- All that is said of a call of the program.
use Rattle.std.specs.Prelude.{ℕ, List, IfOk}
use Rattle.spec_machine.specs.Project.{Project}
use Rattle.spec_machine.specs.ValidProject.{IsValidProject}
use Rattle.spec_project.specs.Projects.{project_of}
use Rattle.spec_laws.specs.Lawful.{IsLawful}
use Rattle.lgx_answer.specs.Plan.{Plan}
use Rattle.lgx_answer.specs.Answered.{Call}
use Rattle.lgx_answer.specs.Laws.{FollowsPlan}

-- A valid project, and so one that is lawful in every run: it keeps the laws of the schedule and does what a controller owes to its
-- tasks.
pub record KeepsLaws (p : Project) : Type 0 where
  pub valid : IsValidProject p
  pub lawful : IsLawful p

-- these bytes are no project, or one that keeps the laws
abbrev pub MakeLawful : List ℕ → Type 0
MakeLawful bytes = IfOk (project_of bytes) KeepsLaws

-- The call follows the plan; and every text that is a project, whether a file has it or not, is one that keeps the laws. So each
-- run that a plan speaks of keeps them.
pub record IsAnswered (plan : Plan) (call : Call) : Type 0 where
  pub follows : FollowsPlan plan call
  pub laws : (bytes : List ℕ) → MakeLawful bytes
