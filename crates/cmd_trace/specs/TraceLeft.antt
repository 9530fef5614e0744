-- What is left of a trace while its lines are handed out.
use Rattle.std.specs.Prelude.{◌≡◌, ℕ, zero, suc, ◌+◌, ◌-◌, ◌<◌, ◌≤◌, List, [], ◌∷◌, ◌++◌, drop, take, length, map, replicate, flat_map, slice_index_or, Bool, if◌then◌else◌, Result, Ok, Err}
use Rattle.spec_base.specs.declared.limits.TheConstants.{MAX_EVENTS}
use Rattle.spec_machine.specs.declared.event.Event.{Event}
use Rattle.spec_machine.specs.declared.event.Event.TheVariants.{Cpu}
use Rattle.spec_machine.specs.Project.{Project}
use Rattle.spec_text.specs.declared.script.EventRun.{EventRun}
use Rattle.spec_text.specs.JournalText.{joined, events_of}
use Rattle.spec_project.specs.declared.fault.ProjectFault.{ProjectFault}
use Rattle.spec_project.specs.Projects.{project_of}
use Rattle.spec_schedule.specs.TraceView.{view}
use Rattle.lgx_core.specs.ControllerView.{ControllerView}
use Rattle.lgx_core.specs.Represents.{StandsFor}
use Rattle.lgx_audit.specs.TraceText.{event_line, end_line}

-- ---- the text

-- the lines of the events from number `made` on, and the line `end`; nothing once that is handed out
abbrev pub text_left : Project → List Event → ℕ → Bool → List ℕ
text_left project journal made ended = if ended then [] else flat_map event_line (drop made (view project journal)) ++ end_line

-- the same of the project that a file is
abbrev pub file_left : Result Project ProjectFault → List Event → ℕ → Bool → List ℕ
file_left (Err fault) journal made ended = []
file_left (Ok project) journal made ended = text_left project journal made ended

-- how many lines these are
abbrev pub lines_left : List Event → ℕ → Bool → ℕ
lines_left journal made ended = if ended then 0 else length journal - made + 1

pub record TraceView : Type 0 where
  pub text : List ℕ
  pub lines : ℕ

abbrev pub trace_view : List ℕ → List Event → ℕ → Bool → TraceView
trace_view bytes journal made ended = record { text = file_left (project_of bytes) journal made ended; lines = lines_left journal made ended }

-- ---- the place in the journal

abbrev pub no_run : EventRun
no_run = record { event = Cpu; count = 0 }

-- the events of runs, without those of the first `run` runs and `done` of the next
abbrev pub events_left : List EventRun → ℕ → ℕ → List Event
events_left [] run done = []
events_left (r ∷ rs) zero done = replicate (r.count - done) r.event ++ events_of rs
events_left (r ∷ rs) (suc run) done = events_left rs run done

-- the run that is next has an event left
abbrev pub HasNext : List EventRun → ℕ → ℕ → Type 0
HasNext runs run done = run < length runs → done < (slice_index_or runs run no_run).count

-- ---- what is always so

-- The file is a project; the controller stands for a run of it with the events that were made; the others are left.
pub record IsUnderWay (bytes : List ℕ) (names : List (List ℕ)) (controller : ControllerView) (journal : List Event) (run done : ℕ) : Type 0 where
  pub project : Project
  pub is_project : project_of bytes ≡ Ok project
  pub names_are : names ≡ map (λ q. q.name) project.programs
  pub stands : StandsFor project (take controller.spent journal) controller
  pub left : drop controller.spent journal ≡ events_left (joined journal) run done
  pub next : HasNext (joined journal) run done
  pub few : length journal ≤ MAX_EVENTS
  pub runs : run ≤ length (joined journal)
