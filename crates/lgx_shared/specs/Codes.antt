-- How recorders are told apart: each is stored as its fields.
use Rattle.std.specs.Prelude.{ℕ, List, Option, Bool, refl}
use Rattle.std.specs.Coded.{Coded, code_by, coded×}
use Rattle.spec_text.specs.Scripts.{Script}
use Rattle.lgx_record.specs.RecordingView.{RecordingView}
use Rattle.lgx_history.specs.Histories.{HistoryView}
use Rattle.lgx_shared.specs.RecorderView.{RecorderView}

-- the parts but for what was recorded, and the history
abbrev pub Rest : Type 0
Rest = Option Script × (List ℕ × Bool)

abbrev pub recorder_code : Coded RecordingView → Coded Rest → Coded (Option HistoryView) → Coded RecorderView
recorder_code recording rest history =
    code_by (RecordingView × (Rest × Option HistoryView)) (coded× recording (coded× rest history))
    (λ r. (r.recording, ((r.script, (r.counts, r.ran)), r.history)))
    (λ p. record { recording = p.0; script = p.1.0.0; counts = p.1.0.1.0; ran = p.1.0.1.1; history = p.1.1 })
    (λ _. refl)
