use Rattle.std.proofs.Common.{◌≡◌, ◌<◌, ◌≤◌, ℕ}
use Rattle.std.specs.Prelude.{Some, nat_eq, not, ◌||◌}
use Rattle.lgx_audit.specs.Watching.{watch_at, watched_step}
use Rattle.lgx_audit.proofs.watch.watch_step.Given as goal

abbrev pub invariant-loop-t : goal.invariant-loop-t
invariant-loop-t l =
    ((k : ℕ) → k < l.t → watch_at l.watches k ≡ watched_step l.table k (Some l.u) (not (nat_eq k l.u) || l.stay) (watch_at l.initial.watches k))
    × ((k : ℕ) → l.t ≤ k → watch_at l.watches k ≡ watch_at l.initial.watches k)
