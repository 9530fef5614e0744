use Rattle.std.proofs.Common.{◌≡◌, ◌<◌, length, false, refl, ap, ◌∙◌, subst, arith, rules}
use Rattle.lgx_lanes.proofs.Numbers.{none_below, parts_at_first}
use Rattle.lgx_lanes.proofs.Pushes.{all_push, each_push}
use Rattle.lgx_lanes.specs.Seen.{done_in}
use Rattle.lgx_lanes.proofs.InStep.{counted}
use Rattle.lgx_lanes.proofs.Seeing.{none_of}
use Rattle.lgx_lanes.proofs.shared.deal.Goals as goal

pub loop-lane-preserved : goal.loop-lane-preserved
loop-lane-preserved g c =
    let passes = c.loop-lane.passes in
    let n = c.loop-lane.lane in
    let items = c.in_ok-push.ensures.items in
    let len : length passes.items ≡ n = search rules in (
      omega arith,
      omega arith,
      omega arith,
      omega arith,
      omega arith,
      omega arith,
      omega (arith, c.in_ok-push.ensures.len),
      each_push (λ k p. p.lane ≡ k) passes.items c.push.new.self.items c.new-pass.result n items len c.loop-lane.invariant.7 c.new-pass.ensures.lane,
      each_push (λ k p. (p.actions ≡ 0) × (p.steps ≡ 0) × (p.ends ≡ 0) × (p.short ≡ false)) passes.items c.push.new.self.items c.new-pass.result n items len c.loop-lane.invariant.8 c.new-pass.ensures.counts,
      c.new.ensures.same ∙ c.loop-lane.invariant.9,
      all_push (λ p. p.front.events ≡ (g.R.Recorded.progress c.args.recorder.now).events) passes.items c.push.new.self.items c.new-pass.result items c.loop-lane.invariant.10 (ap (λ f. f.events) (c.new-pass.ensures.front ∙ (c.new.ensures.seen ∙ (c.loop-lane.invariant.9 ∙ c.requires.history)))),
    )

pub loop-lane-init : goal.loop-lane-init
loop-lane-init g c =
    let lanes = c.lanes-count.ensures.is in
    let p = c.requires.parts in
    let none : length c.new-passes.result.items ≡ 0 = search rules in (
      parts_at_first c.args.actions.parts (length g.I.Input.script.lanes) c.lanes-count.result p.0 lanes,
      parts_at_first c.args.steps.parts (length g.I.Input.script.lanes) c.lanes-count.result p.1 lanes,
      parts_at_first c.args.ends.parts (length g.I.Input.script.lanes) c.lanes-count.result p.2 lanes,
      c.requires.amounts.0,
      c.requires.amounts.1,
      c.requires.amounts.2,
      c.new-passes.ensures.len,
      (λ i d lt. absurd (none_below i lt)),
      (λ i d lt. absurd (none_below i lt)),
      refl,
      (λ k d lt. absurd (none_below k (subst (λ n. k < n) none lt))),
    )

pub new-requires : goal.new-requires
new-requires g c = c.loop-lane.invariant.9 ∙ c.requires.history

pub new-pass-requires-clause-front : goal.new-pass-requires-clause-front
new-pass-requires-clause-front g c =
    let script = g.I.Input.script in
    let progress = g.R.Recorded.progress c.args.recorder.now in
    let lane = c.loop-lane.lane in
    let seen = ap (λ f. f.events) (c.new.ensures.seen ∙ (c.loop-lane.invariant.9 ∙ c.requires.history)) in
    ap (done_in script lane) seen ∙ (counted g.I.Input.project script progress c.requires.under_way lane ∙ none_of progress.counts lane c.requires.none)

pub returns-clause-lanes : goal.returns-clause-lanes
returns-clause-lanes g c = λ i d lt. c.loop-lane.invariant.7 i d (subst (λ n. i < n) c.loop-lane.invariant.6 lt)

pub returns-clause-counts : goal.returns-clause-counts
returns-clause-counts g c = λ i d lt. c.loop-lane.invariant.8 i d (subst (λ n. i < n) c.loop-lane.invariant.6 lt)

pub returns-clause-seen : goal.returns-clause-seen
returns-clause-seen g c = c.loop-lane.invariant.10
