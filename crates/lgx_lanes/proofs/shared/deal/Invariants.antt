use Rattle.std.proofs.Common.{◌≡◌, ℕ, ◌+◌, ◌<◌, false}
use Rattle.std.specs.Prelude.{vec_len, slice_index_or, All}
use Rattle.lgx_lanes.proofs.shared.deal.Given as goal

abbrev pub invariant-loop-lane : goal.invariant-loop-lane
invariant-loop-lane g l =
    (l.actions.parts + l.lane ≡ l.count) × (l.steps.parts + l.lane ≡ l.count) × (l.ends.parts + l.lane ≡ l.count)
    × (l.actions.amount ≡ 0) × (l.steps.amount ≡ 0) × (l.ends.amount ≡ 0)
    × (vec_len l.passes ≡ l.lane)
    × ((i : ℕ) (d : _) → i < l.lane → (slice_index_or l.passes.items i d).lane ≡ i)
    × ((i : ℕ) (d : _) → i < l.lane → let p = slice_index_or l.passes.items i d in (p.actions ≡ 0) × (p.steps ≡ 0) × (p.ends ≡ 0) × (p.short ≡ false))
    × (l.history ≡ l.fn.history)
    × All (λ p. p.front.events ≡ (g.R.Recorded.progress l.recorder).events) l.passes.items
