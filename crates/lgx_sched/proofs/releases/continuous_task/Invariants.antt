use Rattle.std.proofs.Common.{◌≡◌, drop}
use Rattle.std.specs.List.{position_from}
use Rattle.spec_tables.specs.Tasks.{is_continuous}
use Rattle.lgx_sched.proofs.releases.continuous_task.Given as goal

abbrev pub invariant-loop-t : goal.invariant-loop-t
invariant-loop-t l = position_from (λ d. is_continuous d.kind) l.t (drop l.t l.defs) ≡ position_from (λ d. is_continuous d.kind) 0 l.defs
