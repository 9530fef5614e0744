-- What a call of `logix_live P` does.
use Rattle.std.specs.Prelude.{◌≡◌, ◌⊎◌, ℕ, List, [], ◌∷◌, ◌++◌, codes, Option, Some, None, Result, Ok, Err}
use Rattle.spec_machine.specs.Project.{Project}
use Rattle.spec_project.specs.declared.fault.ProjectFault.{ProjectFault}
use Rattle.spec_project.specs.Projects.{project_of}
use Rattle.lgx_answer.specs.declared.status.Verdict.{Verdict}
use Rattle.lgx_answer.specs.declared.status.Verdict.TheVariants as verdict
use Rattle.lgx_answer.specs.Endings.{Ending}
use Rattle.lgx_answer.specs.Endings as ending
use Rattle.lgx_answer.specs.Plan.{Say, only}
use Rattle.lgx_answer.specs.Answered.{Told, Failures, Change, Call, Came, Misses, IsSilent, Answered}
use Rattle.lgx_judge.specs.CauseLines.{project_cause_line}
use Rattle.lgx_live.specs.Console.{ConsoleSeen, IsSameInput}
use Rattle.lgx_live.specs.Talks.{Talks}

abbrev pub usage_text : List ℕ
usage_text = codes "usage: logix_live P" ++ 10 ∷ []

-- what is known of the files' contents, the reads that failed, the console before and after, and the answer
pub record LiveCall : Type 0 where
  pub told : Told
  pub failures : Change Failures
  pub old : ConsoleSeen
  pub new : ConsoleSeen
  pub answer : Ending

-- the same as a call of a command of the program `logix`
abbrev pub as_call : LiveCall → Call
as_call c = record {
  told = c.told;
  failures = c.failures;
  held = record { old = c.old.held; new = c.new.held };
  faults = record { old = c.old.faults; new = c.new.faults };
  answer = c.answer;
}

-- A text is said, and no line is asked for. If that was said to be done, nothing waits any more to be written.
pub record IsSaid (said : Verdict) (text : List ℕ) (c : LiveCall) : Type 0 where
  pub answered : Answered (Say said (only text)) (as_call c)
  pub written : c.answer ≡ ending.Said said → c.new.waiting ≡ []
  pub input : IsSameInput c.old c.new

-- The file doesn't come. Nothing is said, and no line is asked for.
pub record IsMissed (name : List ℕ) (c : LiveCall) : Type 0 where
  pub misses : Misses name (as_call c)
  pub silent : IsSilent (as_call c)
  pub input : IsSameInput c.old c.new

-- A session on the project.
pub record IsTalked (project : Project) (c : LiveCall) : Type 0 where
  pub talks : Talks project c.old c.new c.answer
  pub failures : c.failures.new ≡ c.failures.old

-- by what the file's bytes are: no project, which is said with its first refusal; or one that is talked to
abbrev pub OnProject : Result Project ProjectFault → LiveCall → Type 0
OnProject (Err fault) c = IsSaid verdict.Project (project_cause_line fault) c
OnProject (Ok project) c = IsTalked project c

-- the file is read whole, or it doesn't come
abbrev pub OnFile : List ℕ → LiveCall → Type 0
OnFile name c = IsMissed name c ⊎ ((bytes : List ℕ) × Came c.told name bytes × OnProject (project_of bytes) c)

-- the one word, if there is one and no other
abbrev pub only_word : List (List ℕ) → Option (List ℕ)
only_word [] = None
only_word (name ∷ []) = Some name
only_word (name ∷ other ∷ more) = None

abbrev pub OnName : Option (List ℕ) → LiveCall → Type 0
OnName None c = IsSaid verdict.Usage usage_text c
OnName (Some name) c = OnFile name c

-- all that is said of a call with these words
abbrev pub IsLive : List (List ℕ) → LiveCall → Type 0
IsLive words c = OnName (only_word words) c
