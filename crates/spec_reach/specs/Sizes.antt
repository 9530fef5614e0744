-- What never changes in a run: the plan, the tasks, and how many there are of each part of the state.
use Rattle.std.specs.Prelude.{◌≡◌, List, Bool, length, map}
use Rattle.spec_tables.specs.Connections.{words_of}
use Rattle.spec_tables.specs.Forces.{Forces}
use Rattle.spec_tables.specs.Tasks.{Table}
use Rattle.spec_machine.specs.declared.event.Event.{Event}
use Rattle.spec_machine.specs.Edits.{Book}
use Rattle.spec_machine.specs.Project.{Project}
use Rattle.spec_machine.specs.State.{State, Plan, Progress, plan_of}
use Rattle.spec_machine.specs.Machine.{run}

-- There is a state and a progress for each task, a mark of the first scan and a book of edits for each program, which
-- keeps the program's name, and a place for a force for each I/O word.
pub record HasSizes (p : Project) (plan : Plan) (table : Table) (progress : List Progress) (firsts : List Bool) (books : List Book) (forces : Forces) : Type 0 where
  pub same_plan : plan ≡ plan_of p
  pub same_tasks : table.defs ≡ p.tasks
  pub states : length table.states ≡ length p.tasks
  pub progresses : length progress ≡ length p.tasks
  pub first_scans : length firsts ≡ length p.programs
  pub names : map (λ b. b.name) books ≡ map (λ q. q.name) p.programs
  pub words : length forces.words ≡ words_of p.conns

abbrev pub KeepsSizes : Project → State → Type 0
KeepsSizes p s = HasSizes p s.plan s.table s.progress s.firsts s.books s.forces

-- This holds of every run, of whatever project.
abbrev pub RunsKeepSizes : Type 0
RunsKeepSizes = (p : Project) (journal : List Event) → KeepsSizes p (run p journal)
