-- What is seen of the machine's own runs is read back from its text, and is legal.
use Rattle.std.specs.Prelude.{◌≡◌, ◌≤◌, List, length, None, Ok}
use Rattle.spec_base.specs.declared.limits.TheConstants.{MAX_EVENTS}
use Rattle.spec_machine.specs.declared.event.Event.{Event}
use Rattle.spec_machine.specs.Project.{Project}
use Rattle.spec_machine.specs.ValidProject.{IsValidProject}
use Rattle.spec_schedule.specs.declared.trace.TraceEvent.{TraceEvent}
use Rattle.spec_schedule.specs.declared.trace.Table.{Table}
use Rattle.spec_schedule.specs.TraceView.{table_of, view}
use Rattle.lgx_journal.specs.Written.{HasLanes}
use Rattle.lgx_audit.specs.Breaches.{breach}
use Rattle.lgx_audit.specs.TraceReading.{trace_of}
use Rattle.lgx_audit.specs.TraceText.{text_of}

-- the lines of a trace are read as just this trace, and none of its events breaks a law
pub record PassesAudit (table : Table) (trace : List TraceEvent) : Type 0 where
  pub read : trace_of table (text_of trace) ≡ Ok trace
  pub lawful : breach table trace ≡ None

-- This is so of every run, whatever its events are: no lane is above the journal's own, and there are no more events than a
-- controller counts.
abbrev pub RunsPassAudit : Type 0
RunsPassAudit = (p : Project) (journal : List Event) → IsValidProject p → HasLanes journal → length journal ≤ MAX_EVENTS → PassesAudit (table_of p) (view p journal)
