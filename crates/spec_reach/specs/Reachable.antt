-- All that holds of a state that a journal of a valid project leads to, in one place.
use Rattle.std.specs.Prelude.{◌≡◌, ℕ, ◌+◌, ◌<◌, false, List, length, Some, IsTrue}
use Rattle.std.specs.List.{AllByRecursion as Each}
use Rattle.spec_tables.specs.Tasks.{TaskState, state_of, task, is_up, is_open}
use Rattle.spec_machine.specs.declared.event.Event.{Event}
use Rattle.spec_machine.specs.declared.reply.Mode.TheVariants.{Run}
use Rattle.spec_machine.specs.Machine.{step, run}
use Rattle.spec_machine.specs.Project.{Project}
use Rattle.spec_machine.specs.State.{State, Scan, progress_of, start}
use Rattle.spec_machine.specs.ValidProject.{IsValidProject}
use Rattle.spec_reach.specs.Bounds.{IsBounded}
use Rattle.spec_reach.specs.OpenTasks.{IsFirst}
use Rattle.spec_reach.specs.Programs.{IsAtProgram}
use Rattle.spec_reach.specs.Scans.{Agree}
use Rattle.spec_reach.specs.Sizes.{KeepsSizes}
use Rattle.spec_reach.specs.Texts.{IsBook, IsProgram}

-- n events lead to this state
pub record IsAfter (p : Project) (n : ℕ) (s : State) : Type 0 where
  pub journal : List Event
  pub many : length journal ≡ n
  pub is : run p journal ≡ s

pub record IsReachable (p : Project) (n : ℕ) (s : State) : Type 0 where
  -- what never changes
  pub sizes : KeepsSizes p s
  pub image : length s.image ≡ length p.image
  -- tasks are up in Run alone, and an inhibited one never
  pub in_run : (t : ℕ) → IsTrue (is_up s.table t) → s.mode ≡ Run
  pub allowed : (t : ℕ) → IsTrue (is_up s.table t) → (task s.table t).inhibited ≡ false
  -- ranks differ, and are below the next
  pub differ : (t q : ℕ) (u v : TaskState) → state_of s.table t ≡ Some u → state_of s.table q ≡ Some v → u.rank ≡ v.rank → t ≡ q
  pub below : (t : ℕ) (u : TaskState) → state_of s.table t ≡ Some u → u.rank < s.table.next
  -- one task at most has something open, and it is the first of its priority
  pub alone : (t q : ℕ) → IsTrue (is_open (state_of s.table t)) → IsTrue (is_open (state_of s.table q)) → t ≡ q
  pub first : IsFirst s.table
  -- scans and the table
  pub agree : (t : ℕ) → Agree (state_of s.table t) (progress_of s t)
  pub programs : (t : ℕ) → IsAtProgram p s t
  pub once : (t u : ℕ) (x y : Scan) → (progress_of s t).scan ≡ Some x → (progress_of s u).scan ≡ Some y → x.program ≡ y.program → t ≡ u
  -- numbers
  pub bounds : IsBounded n s
  -- rungs
  pub books : Each (IsBook (length p.image) (length p.tasks)) s.books
  pub rungs : (t : ℕ) (scan : Scan) → (progress_of s t).scan ≡ Some scan → IsProgram (length p.image) (length p.tasks) scan.rungs

-- It starts so, and goes on so with each event.
abbrev pub StartIsAfter : Type 0
StartIsAfter = (p : Project) → IsAfter p 0 (start p)

abbrev pub EventsLeadOn : Type 0
EventsLeadOn = (p : Project) (n : ℕ) (s : State) (e : Event) → IsAfter p n s → IsAfter p (n + 1) (step s e).state

abbrev pub AllIsReachable : Type 0
AllIsReachable = (p : Project) (n : ℕ) (s : State) → IsValidProject p → IsAfter p n s → IsReachable p n s
