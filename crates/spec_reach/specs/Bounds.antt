-- How large the numbers of a state are after n events.
use Rattle.std.specs.Prelude.{◌≡◌, ℕ, ◌+◌, ◌*◌, ◌≤◌, List, length, Some}
use Rattle.spec_machine.specs.declared.event.Event.{Event}
use Rattle.spec_machine.specs.Edits.{book_at}
use Rattle.spec_machine.specs.Machine.{run}
use Rattle.spec_machine.specs.Project.{Project}
use Rattle.spec_machine.specs.State.{State}
use Rattle.spec_tables.specs.Tasks.{TaskState, state_of, region_count}

-- After n events the tick, each region count and each number of an accept are at most n; starts and the tick of the last
-- change to Run are at most the tick. A tick may take a rank for each task and one more.
pub record IsBounded (n : ℕ) (s : State) : Type 0 where
  pub tick : s.tick ≤ n
  pub run_since : s.table.run_since ≤ s.tick
  pub starts : (t : ℕ) (u : TaskState) → state_of s.table t ≡ Some u → u.start ≤ s.tick
  pub regions : (t : ℕ) → region_count (state_of s.table t) ≤ n
  pub next : s.table.next ≤ n * (length s.table.defs + 1)
  pub newest : (g : ℕ) → (book_at s.books g).newest ≤ n

abbrev pub RunsAreBounded : Type 0
RunsAreBounded = (p : Project) (journal : List Event) → IsBounded (length journal) (run p journal)
