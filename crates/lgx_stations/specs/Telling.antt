-- How far a run has come that publishes to a board, and what its stations gave.
use Rattle.std.specs.Prelude.{◌≡◌, ◌≤◌, ◌-◌, ◌++◌, ℕ, List, Option, Some, None, length, slice_get}
use Rattle.spec_base.specs.declared.limits.TheConstants.{MAX_EVENTS}
use Rattle.spec_machine.specs.declared.event.Event.{Event}
use Rattle.spec_machine.specs.Project.{Project}
use Rattle.spec_board.specs.declared.snapshot.Snapshot.{Snapshot}
use Rattle.spec_story.specs.Snapshots.{snapshots}
use Rattle.lgx_stations.specs.declared.reported.Reported.{Reported}
use Rattle.lgx_stations.specs.declared.gated.Readings.{Readings}
use Rattle.lgx_stations.specs.Reports.{Reports}

-- It is the run of the events that were made, with their report, and their story is published; with those that are left they are the
-- journal.
pub record IsAt (p : Project) (journal : List Event) (r : Reported) (board : List Snapshot) (left : List Event) : Type 0 where
  pub made : List Event
  pub recorded : Reports r p made
  pub told : board ≡ snapshots p made
  pub whole : made ++ left ≡ journal
  pub few : length journal ≤ MAX_EVENTS

-- a first snapshot was kept, and the story has it
abbrev pub IsFirstOf : List Snapshot → Option Snapshot → Type 0
IsFirstOf story None = ⊥
IsFirstOf story (Some x) = (i : ℕ) × (slice_get story i ≡ Some x)

-- what is kept as the first snapshot once another one is given
abbrev pub first_kept : Option Snapshot → Option Snapshot → Option Snapshot
first_kept None next = next
first_kept (Some first) next = Some first

-- The first snapshot that a station gave is one of the story, and the last one is the story's last.
pub record AreReadingsOf (story : List Snapshot) (r : Readings) : Type 0 where
  pub first : (i : ℕ) × (slice_get story i ≡ Some r.first)
  pub last : slice_get story (length story - 1) ≡ Some r.last
