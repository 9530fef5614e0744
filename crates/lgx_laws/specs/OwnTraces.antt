-- What is seen of the machine's own runs keeps the laws.
use Rattle.std.specs.Prelude.{List}
use Rattle.spec_machine.specs.declared.event.Event.{Event}
use Rattle.spec_machine.specs.Project.{Project}
use Rattle.spec_machine.specs.ValidProject.{IsValidProject}
use Rattle.spec_schedule.specs.TraceView.{view}
use Rattle.lgx_laws.specs.Laws.{roster_of, KeepsAll}

abbrev pub RunsKeepLaws : Type 0
RunsKeepLaws = (p : Project) (journal : List Event) → IsValidProject p → KeepsAll (roster_of p) (view p journal)
