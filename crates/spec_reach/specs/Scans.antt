-- The scan in progress of a task and its state in the table, in every state that a journal leads to.
use Rattle.std.specs.Prelude.{◌≡◌, ℕ, Bool, false, List, Option, Some, None}
use Rattle.spec_scan.specs.declared.bound.Copying.{Copying}
use Rattle.spec_tables.specs.Tasks.{TaskState, state_of, region_count, has_open_cps}
use Rattle.spec_machine.specs.declared.event.Event.{Event}
use Rattle.spec_machine.specs.Machine.{run}
use Rattle.spec_machine.specs.Project.{Project}
use Rattle.spec_machine.specs.State.{Scan, Progress, progress_of}

-- the copy in progress is a synchronous one
abbrev pub is_syncing : Option Copying → Bool
is_syncing None = false
is_syncing (Some c) = c.sync

abbrev pub syncs : Option Scan → Bool
syncs None = false
syncs (Some scan) = is_syncing scan.position.copy

-- A task that is down has no program begun; one without a scan has no open region; and the table shows an open CPS exactly if a
-- synchronous copy is in progress.
pub record Agree (state : Option TaskState) (progress : Progress) : Type 0 where
  pub down : state ≡ None → (progress.scan ≡ None) × (progress.ended ≡ 0)
  pub closed : progress.scan ≡ None → region_count state ≡ 0
  pub copies : has_open_cps state ≡ syncs progress.scan

abbrev pub ScansAgree : Type 0
ScansAgree = (p : Project) (journal : List Event) (t : ℕ) → Agree (state_of (run p journal).table t) (progress_of (run p journal) t)
