-- By the run's own law, or the recording's.
use Rattle.std.proofs.Common.{false, Some, None, sym, ap, ◌∙◌, subst}
use Rattle.lgx_shared.specs.RecorderView.{RecorderView}
use Rattle.lgx_shared.specs.Stages.{recorder_at}
use Rattle.lgx_shared.specs.Follows.{IsRecorder}
use Rattle.lgx_shared.proofs.Stages.{recorder_still, of_events}
use Rattle.lgx_shared.proofs.recorder.Recorder.law_of_recorders.Goals as goal

pub returns-in-Unshared : goal.returns-in-Unshared
returns-in-Unshared c =
    subst (λ (v : RecorderView). IsRecorder v) (ap recorder_at (sym c.in-Unshared.is) ∙ c.self.view_is)
    (recorder_still false (Some c.in-Unshared.field-1) c.in-Unshared.run' c.law_of_runs.ensures)

pub returns-in-Closed : goal.returns-in-Closed
returns-in-Closed c =
    subst (λ (v : RecorderView). IsRecorder v) (ap recorder_at (sym c.in-Closed.is) ∙ c.self.view_is)
    (recorder_still c.in-Closed.field-1 None c.in-Closed.run' c.law_of_runs-in-Closed.ensures)

pub returns-in-Given : goal.returns-in-Given
returns-in-Given c =
    subst (λ (v : RecorderView). IsRecorder v) (ap recorder_at (sym c.in-Given.is) ∙ c.self.view_is)
    (of_events c.in-Given.recording c.law_of_recordings.ensures)
