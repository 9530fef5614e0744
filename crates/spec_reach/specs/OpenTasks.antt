-- The open task and its priority, in every state that a journal leads to.
use Rattle.std.specs.Prelude.{◌≡◌, ℕ, ◌≤◌, true, List, Some}
use Rattle.spec_machine.specs.declared.event.Event.{Event}
use Rattle.spec_machine.specs.Machine.{run}
use Rattle.spec_machine.specs.Project.{Project}
use Rattle.spec_tables.specs.Tasks.{TaskState, Table, state_of, task, is_open}

-- a task that has something open has the least rank of the up tasks of its priority
abbrev pub IsFirst : Table → Type 0
IsFirst s = (t q : ℕ) (u v : TaskState) → state_of s t ≡ Some u → state_of s q ≡ Some v → is_open (Some u) ≡ true → (task s t).priority ≡ (task s q).priority → u.rank ≤ v.rank

abbrev pub OpenIsFirst : Type 0
OpenIsFirst = (p : Project) (journal : List Event) → IsFirst (run p journal).table
