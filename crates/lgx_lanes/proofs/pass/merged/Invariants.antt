use Rattle.std.proofs.Common.{◌≡◌, ◌+◌}
use Rattle.std.specs.Prelude.{vec_len, sum_by, All}
use mathlib.Core.List.{IsPrefix}
use Rattle.lgx_lanes.proofs.pass.merged.Given as goal

abbrev pub invariant-loop-pass : goal.invariant-loop-pass
invariant-loop-pass g l =
    (l.actions.parts + vec_len l.passes ≡ vec_len l.fn.passes) × (l.steps.parts + vec_len l.passes ≡ vec_len l.fn.passes) × (l.ends.parts + vec_len l.passes ≡ vec_len l.fn.passes)
    × (l.actions.amount + sum_by (λ p. p.actions) l.passes.items ≡ sum_by (λ p. p.actions) l.fn.passes.items)
    × (l.steps.amount + sum_by (λ p. p.steps) l.passes.items ≡ sum_by (λ p. p.steps) l.fn.passes.items)
    × (l.ends.amount + sum_by (λ p. p.ends) l.passes.items ≡ sum_by (λ p. p.ends) l.fn.passes.items)
    × (All (λ p. IsPrefix p.front.events (g.R.Recorded.progress l.recorder).events) l.passes.items → All (λ p. IsPrefix p.front.events (g.R.Recorded.progress l.recorder).events) l.fn.passes.items)
    × (l.history ≡ l.fn.history)

abbrev pub decreases-loop-pass : goal.decreases-loop-pass
decreases-loop-pass g l = vec_len l.passes
