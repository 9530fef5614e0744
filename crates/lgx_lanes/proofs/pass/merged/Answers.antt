-- What is said of the passes that are left holds of all with the one that was taken.
use Rattle.std.proofs.Common.{◌≡◌, ◌+◌, ◌∷◌, [], ◌++◌, ◌∙◌, arith}
use Rattle.std.specs.Prelude.{vec_len}
use mathlib.Core.List.{IsPrefix}
use Rattle.lgx_lanes.proofs.Pushes.{all_push, sum_push}
use Rattle.lgx_lanes.proofs.pass.merged.Goals as goal

pub loop-pass-init : goal.loop-pass-init
loop-pass-init g c =
    let left = c.pop.new.self.items in
    let all = c.args.passes.items in
    let taken = c.in-Some.last in
    let items : all ≡ left ++ taken ∷ [] = c.in-Some.ensures.items in
    let len : vec_len c.pop.new.self + 1 ≡ vec_len c.args.passes = c.in-Some.ensures.cases in
    let back = c.give_back-actions.ensures in (
      omega (arith, back.parts.0, len),
      omega (arith, back.parts.1, len),
      omega (arith, back.parts.2, len),
      omega (arith, back.amounts.0, sum_push (λ p. p.actions) left all taken items),
      omega (arith, back.amounts.1, sum_push (λ p. p.steps) left all taken items),
      omega (arith, back.amounts.2, sum_push (λ p. p.ends) left all taken items),
      (λ rest. all_push (λ p. IsPrefix p.front.events (g.R.Recorded.progress c.args.recorder.now).events) left all taken items rest back.seen),
      back.same,
    )

pub loop-pass-preserved : goal.loop-pass-preserved
loop-pass-preserved g c =
    let left = c.pop-in-loop-pass.new.self.items in
    let all = c.loop-pass.passes.items in
    let taken = c.in-Some-pop.pass in
    let items : all ≡ left ++ taken ∷ [] = c.in-Some-pop.ensures.items in
    let len : vec_len c.pop-in-loop-pass.new.self + 1 ≡ vec_len c.loop-pass.passes = c.in-Some-pop.ensures.cases in
    let before = c.loop-pass.invariant in
    let back = c.give_back-action_share.ensures in (
      omega (arith, c.merge.ensures.parts, back.parts.0, len, before.0),
      omega (arith, c.merge-in-Some-pop.ensures.parts, back.parts.1, len, before.1),
      omega (arith, c.merge-in-Some-pop-2.ensures.parts, back.parts.2, len, before.2),
      omega (arith, c.merge.ensures.amount, back.amounts.0, sum_push (λ p. p.actions) left all taken items, before.3),
      omega (arith, c.merge-in-Some-pop.ensures.amount, back.amounts.1, sum_push (λ p. p.steps) left all taken items, before.4),
      omega (arith, c.merge-in-Some-pop-2.ensures.amount, back.amounts.2, sum_push (λ p. p.ends) left all taken items, before.5),
      (λ rest. before.6 (all_push (λ p. IsPrefix p.front.events (g.R.Recorded.progress c.args.recorder.now).events) left all taken items rest back.seen)),
      back.same ∙ before.7,
    )
