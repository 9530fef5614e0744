use Rattle.std.proofs.Common.{◌≡◌, ◌<◌, ℕ, false}
use Rattle.spec_language.specs.TypeFaults.{reaches_itself}
use Rattle.lgx_types.proofs.cycle.first_cycle.Given as goal

abbrev pub invariant-loop-i : goal.invariant-loop-i
invariant-loop-i l = (j : ℕ) → j < l.i → reaches_itself l.resolved j ≡ false
