-- The lines of an event, as they are put into the log, and how many there can be.
use Rattle.std.specs.Prelude.{◌≡◌, ℕ, ◌+◌, ◌*◌, ◌≤◌, List, [], ◌∷◌, ◌++◌, length, map, ℤ}
use Rattle.lgx_record.specs.declared.lines.TheConstants.{MAX_EVENT_LINES}
use Rattle.lgx_record.specs.declared.lines.Stamp.{Stamp}
use Rattle.spec_tables.specs.declared.fault.TheConstants.{PERIODIC_OVERLAP}
use Rattle.spec_tables.specs.declared.fault.Severity.TheVariants.{Minor}
use Rattle.spec_machine.specs.declared.line.Line.{Line}
use Rattle.spec_machine.specs.declared.line.Line.TheVariants.{Fault as FaultLine}
use Rattle.spec_machine.specs.State.{State}
use Rattle.spec_machine.specs.Releases.{task_fault}
use Rattle.spec_machine.specs.TickLaws.{tasks_in}
use Rattle.spec_machine.specs.declared.event.Event.{Event}
use Rattle.spec_machine.specs.Project.{Project}
use Rattle.spec_machine.specs.declared.answer.What.{What}
use Rattle.spec_machine.specs.Report.{Stamped, stamp, begin_lines, report_lines}
use Rattle.spec_machine.specs.ValidProject.{IsValidProject}
use Rattle.lgx_watch.specs.Kept.{KeptLines, with_lines}
use Rattle.lgx_record.specs.Changes.{change_lines}

-- a log with more lines of one event
abbrev pub with_event_lines : KeptLines → Stamp → List Line → KeptLines
with_event_lines log at lines = with_lines log (stamp at.tick at.step lines)

-- the lines of the periodic tasks below n that overlapped, by a mask; s is the state after the tick
abbrev pub overlap_lines : State → ℕ → ℕ → List Line
overlap_lines s mask n = map FaultLine (map (task_fault s Minor PERIODIC_OVERLAP) (tasks_in mask n))

-- The watched places were compared: those whose numbers before and now differ have lines, and the numbers now are kept.
pub record Compared (old new : KeptLines) (at : Stamp) (before after now : List ℤ) : Type 0 where
  pub log : new ≡ with_event_lines old at (change_lines 0 before now)
  pub values : after ≡ now

-- a report has few lines for its events
abbrev pub EventsHaveFewLines : Type 0
EventsHaveFewLines = (project : Project) (journal : List Event) → IsValidProject project → length (report_lines project journal) ≤ MAX_EVENT_LINES * length journal

-- ---- the begins of a stretch

-- the lines of steps that began the same, where `step` steps were made before the first, which is number 0
abbrev pub begins_lines : ℕ → ℕ → What → List ℕ → List Stamped
begins_lines tick step began [] = []
begins_lines tick step began (k ∷ ks) = stamp tick (step + k + 1) (begin_lines began) ++ begins_lines tick step began ks
