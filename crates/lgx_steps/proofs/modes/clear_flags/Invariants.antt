use Rattle.std.proofs.Common.{◌≡◌, ◌++◌, drop, take, map}
use Rattle.lgx_steps.specs.PartsView.{without_flags}
use Rattle.lgx_steps.proofs.modes.clear_flags.Given as goal

abbrev pub invariant-loop-one : goal.invariant-loop-one
invariant-loop-one l = l.progress ≡ map without_flags (take l.one-index l.fn.progress) ++ drop l.one-index l.fn.progress
