-- The run's turn is one of the lanes.
use Rattle.std.proofs.Common.{subst}
use Rattle.lgx_lanes.specs.Progress.{IsUnderWay}
use Rattle.lgx_lanes.specs.Serves.{Serves}
use Rattle.lgx_shared.specs.RecorderView.{RecorderView}
use Rattle.lgx_shared.specs.ScriptRun.{as_recorder}
use Rattle.lgx_shared.specs.Follows.{progress_of}
use Rattle.lgx_shared.proofs.Progressing.{progresses}
use Rattle.lgx_shared.proofs.recorder_of.RecorderOfRecorded.serve.Goals as goal

pub returns-clause-under_way : goal.returns-clause-under_way
returns-clause-under_way g c =
    let project = g.I.Input.project in
    let script = g.I.Input.script in
    let served = c.serve.ensures.follows project script c.self.invariant in
    let before = subst (λ (v : RecorderView). IsUnderWay project script (progress_of v)) c.self.view_is c.self.invariant.served in
    (before, served.served)

pub returns-clause-turn : goal.returns-clause-turn
returns-clause-turn g c =
    let project = g.I.Input.project in
    let script = g.I.Input.script in
    let old = as_recorder c.self.inside.run in
    let new = as_recorder c.serve.new.self in
    let served = c.serve.ensures.turn project script c.self.invariant in
    subst (λ (v : RecorderView). Serves project script c.args.lane (progress_of v) c.serve.result (progress_of new)) c.self.view_is
    (progresses project script c.args.lane old new c.serve.result served)
