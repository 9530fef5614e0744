use Rattle.std.proofs.Common.{◌≤◌, ◌<◌, ℕ}
use Rattle.spec_base.specs.declared.limits.TheConstants.{MAX_STRUCTURE_BYTES}
use Rattle.std.specs.Prelude.{slice_index}
use Rattle.lgx_types.proofs.table.too_large.Given as goal

abbrev pub invariant-loop-i : goal.invariant-loop-i
invariant-loop-i l = (j : ℕ) → j < l.i → slice_index l.sizes j ≤ MAX_STRUCTURE_BYTES
