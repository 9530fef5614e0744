-- That a project of which nothing is refused is valid, and so is every one that a file gives.
use Rattle.std.specs.Prelude.{◌≡◌, ℕ, List, None, Ok}
use Rattle.spec_machine.specs.Project.{Project}
use Rattle.spec_machine.specs.ValidProject.{IsValidProject}
use Rattle.spec_project.specs.declared.described.Described.{Described}
use Rattle.spec_project.specs.Limits.{IsWithinLimits}
use Rattle.spec_project.specs.Projects.{refusal, project_made, project_of}

-- whatever is described, if it keeps the limits of its file
abbrev pub AcceptedIsValid : Type 0
AcceptedIsValid = (p : Described) → IsWithinLimits p → refusal p ≡ None → IsValidProject (project_made p)

-- whatever bytes a file has
abbrev pub GivenIsValid : Type 0
GivenIsValid = (bytes : List ℕ) (p : Project) → project_of bytes ≡ Ok p → IsValidProject p
