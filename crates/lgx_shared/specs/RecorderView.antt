-- The recorder as contracts see it.
use Rattle.std.specs.Prelude.{ℕ, List, Option, Bool}
use Rattle.spec_text.specs.Scripts.{Script}
use Rattle.lgx_record.specs.RecordingView.{RecordingView}
use Rattle.lgx_history.specs.Histories.{HistoryView}

-- What it recorded; the script that its lanes follow, if it was made for one; for each lane how many of its actions were
-- made; whether turns brought each pass to its end, to want of memory, or to its last turn; and, until it is shared, the
-- history that passes are to see.
pub record RecorderView : Type 0 where
  pub recording : RecordingView
  pub script : Option Script
  pub counts : List ℕ
  pub ran : Bool
  pub history : Option HistoryView

abbrev pub view_of : RecordingView → Option Script → List ℕ → Bool → Option HistoryView → RecorderView
view_of recording script counts ran history = record { recording = recording; script = script; counts = counts; ran = ran; history = history }
