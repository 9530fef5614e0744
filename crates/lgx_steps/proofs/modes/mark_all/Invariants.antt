use Rattle.std.proofs.Common.{◌≡◌, ◌++◌, Bool, true, drop, take, map}
use Rattle.lgx_steps.proofs.modes.mark_all.Given as goal

abbrev pub invariant-loop-first : goal.invariant-loop-first
invariant-loop-first l = l.firsts ≡ map (λ (b : Bool). true) (take l.first-index l.fn.firsts) ++ drop l.first-index l.fn.firsts
