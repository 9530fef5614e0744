-- What the program's own traces are to its audit.
use Rattle.std.specs.Prelude.{◌≡◌, ℕ, List, length, Ok}
use Rattle.spec_machine.specs.declared.event.Event.{Event}
use Rattle.spec_machine.specs.Project.{Project}
use Rattle.spec_text.specs.JournalText.{journal_of}
use Rattle.spec_project.specs.Projects.{project_of}
use Rattle.spec_schedule.specs.Legal.{Legal}
use Rattle.spec_schedule.specs.TraceView.{table_of, view}
use Rattle.lgx_answer.specs.declared.status.Verdict.{Verdict}
use Rattle.lgx_answer.specs.declared.status.Verdict.TheVariants as verdict
use Rattle.lgx_answer.specs.Plan.{Plan, Says}
use Rattle.cmd_trace.specs.AuditPlan.{yes_line, on_trace}
use Rattle.cmd_trace.specs.TracePlan.{trace_text}

-- what is seen of any run of a project that a file is
abbrev pub RunsAreLegal : Type 0
RunsAreLegal = (bytes : List ℕ) (project : Project) (journal : List Event) → project_of bytes ≡ Ok project → Legal (table_of project) (view project journal)

-- the plan says yes with this number of events, and nothing else
pub record SaysYes (plan : Plan) (events : ℕ) : Type 0 where
  pub yes : Says plan verdict.Ok (yes_line events)
  pub alone : (said : Verdict) (text : List ℕ) → Says plan said text → (said ≡ verdict.Ok) × (text ≡ yes_line events)

-- The text that `trace P J` writes, given back to `audit` with the same project: it says yes with the number of the journal's
-- events, whatever project P is and whatever journal J.
abbrev pub TracesSayYes : Type 0
TracesSayYes = (p j : List ℕ) (project : Project) (journal : List Event) → project_of p ≡ Ok project → journal_of j ≡ Ok journal → SaysYes (on_trace (table_of project) (trace_text project journal)) (length journal)
