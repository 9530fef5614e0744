-- Lane by lane: each stays done while the others go on.
use Rattle.std.proofs.Common.{length, ap, ◌∙◌, arith}
use Rattle.std.proofs.lemmas.Option.{same_Some}
use Rattle.std.proofs.lemmas.Result.{on_ok_weaker}
use Rattle.spec_text.specs.Scripts.{Script}
use Rattle.lgx_shared.specs.ScriptRun.{as_recorder}
use Rattle.lgx_shared.proofs.Finishing.{goes_nowhere, goes_further, lane_more, finished}
use Rattle.lgx_shared.proofs.script_run.ScriptRun.finish.Goals as goal

pub loop-lane-init : goal.loop-lane-init
loop-lane-init c = (λ p s f. f, goes_nowhere (as_recorder c.args.self.now), λ p s f i lt. absurd (omega arith))

pub loop-lane-preserved : goal.loop-lane-preserved
loop-lane-preserved c =
    let old = as_recorder c.loop-lane.self in
    let new = as_recorder c.finish_lane.new.self in
    let inv = c.loop-lane.invariant in
    let e = c.in_ok-finish_lane.ensures in (
      λ p s f. e.follows p s (inv.0 p s f),
      goes_further (as_recorder c.args.self.now) old new inv.1 e.goes_on,
      λ p s f. lane_more s c.loop-lane.lane old new e.goes_on (inv.2 p s f) (e.done p s (inv.0 p s f)).1,
    )

pub returns-in_err-finish_lane-clause-follows : goal.returns-in_err-finish_lane-clause-follows
returns-in_err-finish_lane-clause-follows c = λ p s f. c.in_err-finish_lane.ensures.follows p s (c.loop-lane.invariant.0 p s f)

pub returns-in_err-finish_lane-clause-goes_on : goal.returns-in_err-finish_lane-clause-goes_on
returns-in_err-finish_lane-clause-goes_on c = goes_further (as_recorder c.args.self.now) (as_recorder c.loop-lane.self) (as_recorder c.finish_lane.new.self) c.loop-lane.invariant.1 c.in_err-finish_lane.ensures.goes_on

pub returns-clause-follows : goal.returns-clause-follows
returns-clause-follows c = λ p s f. c.finish_lane-2.ensures.follows p s (c.loop-lane.invariant.0 p s f)

pub returns-clause-goes_on : goal.returns-clause-goes_on
returns-clause-goes_on c = goes_further (as_recorder c.args.self.now) (as_recorder c.loop-lane.self) (as_recorder c.finish_lane-2.new.self) c.loop-lane.invariant.1 c.finish_lane-2.ensures.goes_on

pub returns-clause-complete : goal.returns-clause-complete
returns-clause-complete c = λ p s f.
    let old = as_recorder c.loop-lane.self in
    let new = as_recorder c.finish_lane-2.new.self in
    let e = c.finish_lane-2.ensures in
    let inv = c.loop-lane.invariant in
    let now = inv.0 p s f in
    let all = c.lanes-lanes.ensures.is ∙ ap (λ (x : Script). length x.lanes) (same_Some c.args.self.now.script s f.made) in
    on_ok_weaker c.finish_lane-2.result (λ told. finished p s c.lanes-lanes.result old new e.goes_on (e.follows p s now) all (λ i lt. inv.2 p s f i (omega (arith, c.loop-lane-test.false, lt))) told.0) (e.done p s now)

pub returns-clause-steps : goal.returns-clause-steps
returns-clause-steps c = λ p s f.
    let e = c.finish_lane-2.ensures in
    let now = c.loop-lane.invariant.0 p s f in
    on_ok_weaker c.finish_lane-2.result (λ told. (e.follows p s now).served.few) (e.done p s now)
