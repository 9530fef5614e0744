use Rattle.std.proofs.Common.{◌≡◌, ℕ, ◌+◌, ◌<◌, ◌≤◌, false}
use Rattle.std.specs.Prelude.{slice_index_or}
use Rattle.lgx_lanes.specs.Lanes.{most_turns}
use Rattle.lgx_lanes.proofs.pass.all_came.Given as goal

abbrev pub invariant-loop-pass : goal.invariant-loop-pass
invariant-loop-pass g l =
    (i : ℕ) (d : _) → i < l.pass-index → let p = slice_index_or l.passes.items i d in p.ends ≡ 0 → p.short ≡ false → most_turns p.length p.least_steps ≤ p.actions + p.steps
