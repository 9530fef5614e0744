-- Laws of the tasks in every state that a journal leads to.
use Rattle.std.specs.Prelude.{◌≡◌, ℕ, ◌<◌, true, false, IsTrue, List, Some}
use Rattle.spec_machine.specs.declared.event.Event.{Event}
use Rattle.spec_machine.specs.declared.reply.Mode.TheVariants.{Run}
use Rattle.spec_tables.specs.Tasks.{TaskState, task, state_of, is_up, is_open}
use Rattle.spec_machine.specs.Project.{Project}
use Rattle.spec_machine.specs.State.{State}
use Rattle.spec_machine.specs.ProcessorStep.{processor_step, task_of}
use Rattle.spec_machine.specs.Machine.{run}

-- At most one task has something open.
abbrev pub OneOpen : Type 0
OneOpen = (project : Project) (journal : List Event) (t q : ℕ) → IsTrue (is_open (state_of (run project journal).table t)) → IsTrue (is_open (state_of (run project journal).table q)) → t ≡ q

-- A task that has something open is up. This holds of every state, by what it is to have something open: a task that is
-- down keeps no counts.
abbrev pub OpenIsUp : Type 0
OpenIsUp = (s : State) (t : ℕ) → IsTrue (is_open (state_of s.table t)) → IsTrue (is_up s.table t)

-- Tasks are up in Run alone, so outside Run nothing is open.
abbrev pub UpInRun : Type 0
UpInRun = (project : Project) (journal : List Event) (t : ℕ) → IsTrue (is_up (run project journal).table t) → (run project journal).mode ≡ Run

-- An inhibited task is never up.
abbrev pub InhibitedStayDown : Type 0
InhibitedStayDown = (project : Project) (journal : List Event) (t : ℕ) → (task (run project journal).table t).inhibited ≡ true → is_up (run project journal).table t ≡ false

-- The ranks of tasks that are up differ, and each is below the next rank.
abbrev pub RanksDiffer : Type 0
RanksDiffer = (project : Project) (journal : List Event) (t q : ℕ) (u v : TaskState) → state_of (run project journal).table t ≡ Some u → state_of (run project journal).table q ≡ Some v → u.rank ≡ v.rank → t ≡ q

abbrev pub RanksBelowNext : Type 0
RanksBelowNext = (project : Project) (journal : List Event) (t : ℕ) (u : TaskState) → state_of (run project journal).table t ≡ Some u → u.rank < (run project journal).table.next

-- A step is of a task that was up before it. This too holds of every state: the step is the chosen task's, and that is one
-- that is up.
abbrev pub StepOfUpTask : Type 0
StepOfUpTask = (s : State) (t : ℕ) → task_of (processor_step s).answer.what ≡ Some t → IsTrue (is_up s.table t)
