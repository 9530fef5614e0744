-- How an event changes a task, and what is counted of it: one walk over the events finds the change of each task, and every
-- law of tasks follows from the changes.
use Rattle.std.proofs.Common.{◌≡◌, ℕ, ◌+◌, ◌-◌, ◌<◌, ◌≤◌, Bool, true, false, List, length, Option, Some, None}
use Rattle.std.specs.Prelude.{⊤, is_some}
use Rattle.spec_tables.specs.Tasks.{TaskState, state_of, task, chosen, is_open, region_count, has_open_cps, with_region_count, with_cps_open, with_rank}
use Rattle.spec_scan.specs.Position.{ProgramRungs}
use Rattle.spec_scan.specs.Scan.{advance}
use Rattle.spec_scan.specs.declared.bound.Copying.{Copying}
use Rattle.spec_machine.specs.declared.event.Event.{Event}
use Rattle.spec_machine.specs.declared.event.Event.TheVariants.{Cpu, Tick}
use Rattle.spec_machine.specs.declared.reply.Mode.TheVariants.{Run}
use Rattle.spec_machine.specs.Edits.{Book, book_at, selected}
use Rattle.spec_machine.specs.Project.{Project}
use Rattle.spec_machine.specs.State.{State, Scan, Progress, progress_of, programs_of}
use Rattle.spec_machine.specs.ProcessorStep.{new_scan, next_program}
use Rattle.spec_machine.specs.Machine.{step}
use Rattle.spec_machine.proofs.OrderlyRuns.{IsOrderly}
use Rattle.spec_schedule.specs.declared.trace.TraceMark.{TraceMark}
use Rattle.spec_schedule.specs.declared.trace.TraceMark.TheVariants.{Up, Down, Sync, SyncEnd}
use Rattle.spec_schedule.specs.Counting.{Counted, counted, gone_down, released, marked, is_task}
use Rattle.spec_schedule.specs.Stages.{begins, sync_start, sync_end}
use Rattle.spec_schedule.specs.TraceView.{audit_task, seen}
use Rattle.spec_reach.specs.Sizes.{KeepsSizes}
use Rattle.spec_reach.specs.Scans.{is_syncing, syncs}

-- ---- a task

-- its state in the table, and its progress but for the flags
pub record TaskView : Type 0 where
  pub state : Option TaskState
  pub ended : ℕ
  pub scan : Option Scan

abbrev pub view_at : Option TaskState → Progress → TaskView
view_at u q = record { state = u; ended = q.ended; scan = q.scan }

abbrev pub view_of : State → ℕ → TaskView
view_of s t = view_at (state_of s.table t) (progress_of s t)

-- A task that is down has no program begun; one without a scan has no open region; and the table tells an open CPS exactly
-- if a synchronous copy is in progress.
pub record IsSound (v : TaskView) : Type 0 where
  pub down : v.state ≡ None → (v.scan ≡ None) × (v.ended ≡ 0)
  pub closed : v.scan ≡ None → region_count v.state ≡ 0
  pub agrees : has_open_cps v.state ≡ syncs v.scan

-- what is counted of a task, but for how often it has gone down
pub record Shows (v : TaskView) (c : Counted) : Type 0 where
  pub up : c.up ≡ is_some v.state
  pub ended : c.ended ≡ v.ended
  pub region : c.region_count ≡ region_count v.state
  pub cps : c.cps_open ≡ has_open_cps v.state

-- ---- changes

-- A task stays as it is; takes this rank at a tick; goes down; comes up, or goes down with its last program and comes up at
-- once, with this start and rank; begins this scan; goes on in its scan, which is then this one, with this mark; or has its
-- scan end before its last program.
pub data Change : Type 0 where
  Stays : Change
  Rotates : ℕ → Change
  GoesDown : Change
  ComesUp : ℕ → ℕ → Change
  Restarts : ℕ → ℕ → Change
  Begins : Scan → Change
  Goes : TraceMark → Scan → Change
  Ends : Change

abbrev pub fresh : ℕ → ℕ → TaskState
fresh now rank = record { start = now; rank = rank; region_count = 0; cps_open = false }

abbrev pub marked_state : TraceMark → Option TaskState → Option TaskState
marked_state Up u = with_region_count (region_count u + 1) u
marked_state Down u = with_region_count (region_count u - 1) u
marked_state Sync u = with_cps_open true u
marked_state SyncEnd u = with_cps_open false u
marked_state _ u = u

abbrev pub changed : Change → TaskView → TaskView
changed Stays v = v
changed (Rotates n) v = record v { state = with_rank n v.state }
changed GoesDown v = record { state = None; ended = 0; scan = None }
changed (ComesUp now rank) v = record { state = Some (fresh now rank); ended = 0; scan = None }
changed (Restarts now rank) v = record { state = Some (fresh now rank); ended = 0; scan = None }
changed (Begins scan) v = record v { scan = Some scan }
changed (Goes m scan) v = record v { state = marked_state m v.state; scan = Some scan }
changed Ends v = record { state = with_region_count 0 v.state; ended = v.ended + 1; scan = None }

abbrev pub counts_after : Change → Counted → Counted
counts_after Stays c = c
counts_after (Rotates n) c = c
counts_after GoesDown c = gone_down c
counts_after (ComesUp now rank) c = released c
counts_after (Restarts now rank) c = released (gone_down c)
counts_after (Begins scan) c = record c { region_count = 0 }
counts_after (Goes m scan) c = marked m c
counts_after Ends c = record c { ended = c.ended + 1; region_count = 0 }

-- the rungs of the last begin
abbrev pub begun_after : Change → List Book → Option ProgramRungs → Option ProgramRungs
begun_after (Begins scan) books begun = Some (selected (book_at books scan.program))
begun_after _ books begun = begun

-- a synchronous copy starts, or ends
abbrev pub starts_copy : Change → Bool
starts_copy (Goes Sync scan) = true
starts_copy _ = false

abbrev pub ends_copy : Change → Bool
ends_copy (Goes SyncEnd scan) = true
ends_copy _ = false

-- ---- which changes an event makes

-- a copy in progress before and after a step with a mark
abbrev pub CopyGoes : TraceMark → Option Copying → Option Copying → Type 0
CopyGoes Sync before now = (before ≡ None) × (is_syncing now ≡ true)
CopyGoes SyncEnd before now = (is_syncing before ≡ true) × (is_syncing now ≡ false)
CopyGoes _ before now = is_syncing now ≡ is_syncing before

-- the scan goes on with its rungs
pub record GoesOn (m : TraceMark) (s : State) (t : ℕ) (scan : Scan) : Type 0 where
  pub before : Scan
  pub was : (progress_of s t).scan ≡ Some before
  pub goes : scan ≡ record before { position = (advance before.rungs before.position s.image s.tick before.first (progress_of s t).flags).position }
  pub program : scan.program ≡ before.program
  pub rungs : scan.rungs ≡ before.rungs
  pub copy : CopyGoes m before.position.copy scan.position.copy

-- the processor step is of this task
pub record IsStepOf (s : State) (e : Event) (t : ℕ) : Type 0 where
  pub step : e ≡ Cpu
  pub chosen : chosen s.table ≡ Some t

abbrev pub tick_after : State → Event → ℕ
tick_after s Tick = s.tick + 1
tick_after s _ = s.tick

-- a task that comes up has a rank above all others, and the tick of the moment as its start
pub record IsFresh (s : State) (e : Event) (now number : ℕ) : Type 0 where
  pub start : now ≡ tick_after s e
  pub rank : s.table.next ≤ number

-- the chosen task takes the next rank at a tick in Run, unless it has something open
pub record TakesTurn (s : State) (e : Event) (t : ℕ) : Type 0 where
  pub tick : e ≡ Tick
  pub mode : s.mode ≡ Run
  pub chosen : chosen s.table ≡ Some t
  pub closed : is_open (state_of s.table t) ≡ false

abbrev pub Makes : State → Event → ℕ → Change → Type 0
Makes s e t Stays = TakesTurn s e t → ⊥
Makes s e t (Rotates n) = TakesTurn s e t × (n ≡ s.table.next)
Makes s e t GoesDown = ⊤
Makes s e t (ComesUp now rank) = (state_of s.table t ≡ None) × IsFresh s e now rank
Makes s e t (Restarts now rank) = IsStepOf s e t × IsFresh s e now rank
Makes s e t (Begins scan) = IsStepOf s e t × ((progress_of s t).scan ≡ None) × (scan ≡ new_scan s (next_program s t (progress_of s t)))
Makes s e t (Goes m scan) = IsStepOf s e t × GoesOn m s t scan
Makes s e t Ends = IsStepOf s e t × ((progress_of s t).ended + 1 < length (programs_of s t)) × (has_open_cps (state_of s.table t) ≡ false)

-- what happens to a task at an event, and what is counted and told of it
pub record Happens (p : Project) (s : State) (e : Event) (t : ℕ) : Type 0 where
  pub change : Change
  pub makes : Makes s e t change
  pub view : view_of (step s e).state t ≡ changed change (view_of s t)
  pub counts : (c : Counted) → Shows (view_of s t) c → counted (audit_task (task s.table t) (programs_of s t)) t (seen p (step s e).answer) c ≡ counts_after change c
  pub begun : (books : List Book) (b : Option ProgramRungs) → begins t (step s e).answer books b ≡ begun_after change books b
  pub starts : is_task t (sync_start (step s e).answer) ≡ starts_copy change
  pub ends : is_task t (sync_end (step s e).answer) ≡ ends_copy change

-- ---- what is known of a state

pub record Known (p : Project) (s : State) : Type 0 where
  pub sizes : KeepsSizes p s
  pub orderly : IsOrderly s
  pub sound : (t : ℕ) → IsSound (view_of s t)
