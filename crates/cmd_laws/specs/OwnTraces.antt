-- What the controller's own traces are to the program.
use Rattle.std.specs.Prelude.{◌≡◌, ℕ, List, length, Ok}
use Rattle.spec_machine.specs.declared.event.Event.{Event}
use Rattle.spec_machine.specs.Project.{Project}
use Rattle.spec_text.specs.JournalText.{journal_of}
use Rattle.spec_project.specs.Projects.{project_of}
use Rattle.cmd_trace.specs.TraceLaws.{SaysYes}
use Rattle.cmd_trace.specs.TracePlan.{trace_text}
use Rattle.lgx_laws.specs.Laws.{roster_of}
use Rattle.cmd_laws.specs.LawsPlan.{on_trace}

-- The text that `trace P J` writes, given to the program with the same project: it says yes with the number of the journal's
-- events, whatever project P is and whatever journal J.
abbrev pub TracesSayYes : Type 0
TracesSayYes = (p j : List ℕ) (project : Project) (journal : List Event) → project_of p ≡ Ok project → journal_of j ≡ Ok journal → SaysYes (on_trace (roster_of project) (trace_text project journal)) (length journal)
