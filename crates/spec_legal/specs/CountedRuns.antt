-- What is counted along a run is what the machine has.
use Rattle.std.specs.Prelude.{◌≡◌, ℕ, ◌<◌, List, length, map, replicate, fold, slice_index_or}
use Rattle.spec_tables.specs.Tasks.{state_of, is_up, region_count, has_open_cps}
use Rattle.spec_machine.specs.declared.event.Event.{Event}
use Rattle.spec_machine.specs.Edits.{Book, book_at}
use Rattle.spec_machine.specs.Machine.{run}
use Rattle.spec_machine.specs.Project.{Project}
use Rattle.spec_machine.specs.State.{State, progress_of}
use Rattle.spec_machine.specs.ValidProject.{IsValidProject}
use Rattle.spec_schedule.specs.declared.trace.Table.{Table}
use Rattle.spec_schedule.specs.declared.trace.TraceEvent.{TraceEvent}
use Rattle.spec_schedule.specs.Counting.{Counted, uncounted, counted_all, Numbers, unedited, edited_all}
use Rattle.spec_schedule.specs.TraceView.{table_of, view}

-- what is counted after a trace, of its tasks and of its programs
abbrev pub counts_after : Table → List TraceEvent → List Counted
counts_after table trace = fold (λ cs e. counted_all table.tasks e cs) (map (λ d. uncounted) table.tasks) trace

abbrev pub numbers_after : Table → List TraceEvent → List Numbers
numbers_after table trace = fold (λ ns e. edited_all e ns) (replicate table.programs unedited) trace

-- the task is counted up exactly if it is up, with its ended programs, its region count and its open CPS
pub record IsCountOf (s : State) (t : ℕ) (c : Counted) : Type 0 where
  pub up : c.up ≡ is_up s.table t
  pub ended : c.ended ≡ (progress_of s t).ended
  pub regions : c.region_count ≡ region_count (state_of s.table t)
  pub cps : c.cps_open ≡ has_open_cps (state_of s.table t)

abbrev pub CountsAreTheMachines : Type 0
CountsAreTheMachines = (p : Project) (journal : List Event) (t : ℕ) → IsValidProject p → t < length p.tasks → IsCountOf (run p journal) t (slice_index_or (counts_after (table_of p) (view p journal)) t uncounted)

-- the numbers of a program's texts, and whether it is testing
abbrev pub numbers_of : Book → Numbers
numbers_of b = record { base = b.number; merged = b.newest; testing = b.testing }

abbrev pub NumbersAreTheBooks : Type 0
NumbersAreTheBooks = (p : Project) (journal : List Event) (g : ℕ) → IsValidProject p → slice_index_or (numbers_after (table_of p) (view p journal)) g unedited ≡ numbers_of (book_at (run p journal).books g)
