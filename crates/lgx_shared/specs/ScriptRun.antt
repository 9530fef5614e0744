-- The run of a script as contracts see it, and the recorder that has it.
use Rattle.std.specs.Prelude.{ℕ, List, Option, Bool, false, Some, None, refl}
use Rattle.std.specs.Coded.{Coded, code_by, coded×}
use Rattle.spec_text.specs.Scripts.{Script}
use Rattle.lgx_record.specs.RecordingView.{RecordingView}
use Rattle.lgx_history.specs.Histories.{HistoryView}
use Rattle.lgx_shared.specs.RecorderView.{RecorderView, view_of}

-- what it recorded, the script that its lanes follow, and for each lane how many of its actions were made
pub record ScriptRunView : Type 0 where
  pub recording : RecordingView
  pub script : Script
  pub counts : List ℕ

abbrev pub script_run_view : RecordingView → Script → List ℕ → ScriptRunView
script_run_view recording script counts = record { recording = recording; script = script; counts = counts }

abbrev pub script_run_code : Coded RecordingView → Coded (Script × List ℕ) → Coded ScriptRunView
script_run_code recording rest =
    code_by (RecordingView × (Script × List ℕ)) (coded× recording rest)
    (λ r. (r.recording, (r.script, r.counts)))
    (λ p. script_run_view p.0 p.1.0 p.1.1)
    (λ _. refl)

-- the recorder that has it: whether it ran, and the history that passes are to see
abbrev pub recorder_with : Bool → Option HistoryView → ScriptRunView → RecorderView
recorder_with ran history run = view_of run.recording (Some run.script) run.counts ran history

-- the recorder that has nothing else
abbrev pub as_recorder : ScriptRunView → RecorderView
as_recorder run = recorder_with false None run
