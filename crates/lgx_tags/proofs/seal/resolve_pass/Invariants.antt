use Rattle.std.proofs.Common.{◌≡◌, ℕ, ◌<◌, ◌≤◌}
use Rattle.lgx_tags.specs.Chains.{open_in, PartlyResolved, IsStuck}
use Rattle.lgx_tags.proofs.seal.resolve_pass.Given as goal

abbrev pub invariant-loop-i : goal.invariant-loop-i
invariant-loop-i l = PartlyResolved l.declared l.known.items × (open_in l.known.items ≤ open_in l.initial.known.items) × (open_in l.known.items ≡ open_in l.initial.known.items → (l.known.items ≡ l.initial.known.items) × ((j : ℕ) → j < l.i → IsStuck l.declared l.known.items j))
