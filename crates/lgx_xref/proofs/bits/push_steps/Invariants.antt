-- The bits of as many subscripts as were passed.
use Rattle.std.proofs.Common.{◌≡◌, ◌++◌, take}
use Rattle.lgx_xref.specs.Accesses.{step_bits}
use Rattle.lgx_xref.proofs.bits.push_steps.Given as goal

abbrev pub invariant-loop-step : goal.invariant-loop-step
invariant-loop-step l = l.bits.items ≡ l.fn.bits.items ++ step_bits (take l.step-index l.steps)
