use Rattle.std.proofs.Common.{ℕ, ◌<◌, None, get_or}
use Rattle.spec_tables.specs.Tasks.{no_task}
use Rattle.lgx_sched.specs.QuietTicks.{IsIdle}
use Rattle.lgx_sched.proofs.quiet.all_idle_until.Given as goal

abbrev pub invariant-loop-t : goal.invariant-loop-t
invariant-loop-t l = (n k : ℕ) → l.now < n → n < l.until → k < l.t → IsIdle n l.run_since (get_or l.defs k no_task) (get_or l.ups k None)
