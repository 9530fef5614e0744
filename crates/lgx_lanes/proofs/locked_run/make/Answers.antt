-- What the front sees of the turn.
use Rattle.std.proofs.Common.{◌≡◌, ℕ, ◌+◌, List, length, sym, ◌∙◌, ap, subst}
use mathlib.Core.List.{IsPrefix}
use Rattle.spec_machine.specs.declared.event.Event.{Event}
use Rattle.spec_lanes.specs.Turns.{lane_of, IsAcceptAt}
use Rattle.lgx_lanes.specs.Turns.{MatchTurn}
use Rattle.lgx_lanes.specs.Seen.{done_in, Tells}
use Rattle.lgx_lanes.proofs.InStep.{counted}
use Rattle.lgx_lanes.proofs.Sums.{adds}
use Rattle.lgx_lanes.proofs.Seeing.{counts_then, onward, tells}
use Rattle.lgx_lanes.proofs.locked_run.make.Goals as goal

pub see-requires-clause-ahead : goal.see-requires-clause-ahead
see-requires-clause-ahead g c =
    let progress = g.R.Recorded.progress in
    let old = progress c.args.recorder.now in
    let new = progress c.serve-turn.new.self in
    subst (λ (es : List Event). IsPrefix es new.events) (sym (ap (λ h. h.events) c.requires.history))
    (onward g.I.Input.project g.I.Input.script c.args.lane old new c.serve-turn.result c.serve-turn.ensures.turn)

pub returns-clause-adds : goal.returns-clause-adds
returns-clause-adds g c =
    let progress = g.R.Recorded.progress in
    adds g.I.Input.project g.I.Input.script c.args.lane (progress c.args.recorder.now) (progress c.serve-turn.new.self) c.serve-turn.ensures.under_way.0 c.serve-turn.result c.serve-turn.ensures.turn

pub returns-clause-tells : goal.returns-clause-tells
returns-clause-tells g c =
    let progress = g.R.Recorded.progress in
    let project = g.I.Input.project in
    let script = g.I.Input.script in
    let old = progress c.args.recorder.now in
    let new = progress c.serve-turn.new.self in
    let turn = c.serve-turn.result in
    let seen = c.args.front.now.events in
    let before = subst (λ (es : List Event). IsPrefix seen es) (ap (λ h. h.events) c.requires.history) c.see.ensures.before in
    let now = ap (λ h. h.events) c.see.ensures.now ∙ ap (λ h. h.events) c.see.ensures.history in
    subst (λ (es : List Event). Tells project script c.args.lane seen turn es) (sym now)
    (tells project script c.args.lane old new turn seen c.serve-turn.ensures.turn before)

pub returns-clause-counts : goal.returns-clause-counts
returns-clause-counts g c =
    let progress = g.R.Recorded.progress in
    let project = g.I.Input.project in
    let script = g.I.Input.script in
    let lane = c.args.lane in
    let old = progress c.args.recorder.now in
    let new = progress c.serve-turn.new.self in
    let turn = c.serve-turn.result in
    let way = c.serve-turn.ensures.under_way in
    let now = ap (λ h. h.events) c.see.ensures.now ∙ ap (λ h. h.events) c.see.ensures.history in
    let before = c.requires.counted ∙ sym (counted project script old way.0 lane) in
    subst
    (λ (k : ℕ). MatchTurn turn (done_in script lane c.see.new.self.events ≡ k + 1) (done_in script lane c.see.new.self.events ≡ k) ((done_in script lane c.see.new.self.events ≡ k) × (k ≡ length (lane_of script lane))) ((done_in script lane c.see.new.self.events ≡ k) × IsAcceptAt script lane k))
    (sym before)
    (subst
    (λ (es : List Event). let after = done_in script lane es in let k = done_in script lane old.events in MatchTurn turn (after ≡ k + 1) (after ≡ k) ((after ≡ k) × (k ≡ length (lane_of script lane))) ((after ≡ k) × IsAcceptAt script lane k))
    (sym now)
    (counts_then project script lane old new way.0 way.1 turn c.serve-turn.ensures.turn))
