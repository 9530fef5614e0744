-- The plan of `stations P J C`.
use Rattle.std.specs.Prelude.{ℕ, List}
use Rattle.spec_machine.specs.declared.event.Event.{Event}
use Rattle.spec_machine.specs.Project.{Project}
use Rattle.lgx_answer.specs.declared.status.Verdict.TheVariants as verdict
use Rattle.lgx_answer.specs.Plan.{Texts, Plan, Say, Read}
use Rattle.lgx_judge.specs.Plans.{on_project, on_journal}
use Rattle.cmd_stations.specs.StationsText.{IsStationsText}

-- the texts of whatever the stations may give
abbrev pub station_texts : ℕ → Project → List Event → Texts
station_texts count project journal = λ bytes. IsStationsText project journal count bytes

abbrev pub journal_watched : ℕ → Project → List Event → Plan
journal_watched count project journal = Say verdict.Ok (station_texts count project journal)

-- the journal is read only if the project is accepted
abbrev pub journal_read : List ℕ → ℕ → Project → Plan
journal_read j count project = Read j (on_journal (journal_watched count project))

abbrev pub stations_plan : List ℕ → List ℕ → ℕ → Plan
stations_plan p j count = Read p (on_project (journal_read j count))
