-- It follows its script.
use Rattle.std.proofs.Common.{subst}
use Rattle.lgx_lanes.specs.Progress.{IsUnderWay}
use Rattle.lgx_shared.specs.RecorderView.{RecorderView}
use Rattle.lgx_shared.specs.Follows.{progress_of}
use Rattle.lgx_shared.proofs.recorder_of.RecorderOfRecorded.journal.Goals as goal

pub returns-clause-under_way : goal.returns-clause-under_way
returns-clause-under_way g c =
    subst (λ (v : RecorderView). IsUnderWay g.I.Input.project g.I.Input.script (progress_of v)) c.self.view_is c.self.invariant.served
