-- What `stations P J C` writes.
use Rattle.std.specs.Prelude.{◌≡◌, ℕ, ◌+◌, List, [], ◌∷◌, ◌++◌, ℤ, pos, length, flat_map, codes}
use Rattle.std.specs.List.{All}
use Rattle.std.specs.Fmt.{signed_decimal}
use Rattle.spec_machine.specs.declared.event.Event.{Event}
use Rattle.spec_machine.specs.Project.{Project}
use Rattle.spec_text.specs.ReportText.{report}
use Rattle.spec_board.specs.declared.snapshot.Snapshot.{Snapshot}
use Rattle.spec_story.specs.Snapshots.{snapshots}
use Rattle.lgx_stations.specs.declared.gated.Readings.{Readings}
use Rattle.lgx_stations.specs.Telling.{AreReadingsOf}

-- a number of a line, after a space
abbrev pub spaced_number : ℤ → List ℕ
spaced_number z = 32 ∷ signed_decimal z

-- the line of a snapshot that station i gave: `station`, i, the tick and the values
abbrev pub station_line : ℕ → Snapshot → List ℕ
station_line i x = codes "station" ++ flat_map spaced_number (pos i ∷ pos x.tick ∷ x.values) ++ 10 ∷ []

-- the line of its first snapshot, and that of its last
abbrev pub station_lines : ℕ → Readings → List ℕ
station_lines i r = station_line i r.first ++ station_line i r.last

-- those of each station in turn, where the first is station i
abbrev pub lines_from : ℕ → List Readings → List ℕ
lines_from i [] = []
lines_from i (r ∷ rs) = station_lines i r ++ lines_from (i + 1) rs

-- The report of the journal, and then two lines a station: the first is that of a snapshot of the story, the second that of the
-- story's last.
pub record IsStationsText (project : Project) (journal : List Event) (stations : ℕ) (bytes : List ℕ) : Type 0 where
  pub readings : List Readings
  pub count : length readings ≡ stations
  pub each : All (λ r. AreReadingsOf (snapshots project journal) r) readings
  pub is : bytes ≡ report project journal ++ lines_from 0 readings
