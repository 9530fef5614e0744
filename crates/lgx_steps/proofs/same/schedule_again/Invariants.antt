-- Those before are copied.
use Rattle.std.proofs.Common.{◌≡◌, take}
use Rattle.lgx_steps.proofs.same.schedule_again.Given as goal

abbrev pub invariant-loop-programs : goal.invariant-loop-programs
invariant-loop-programs l = l.list.items ≡ take l.programs-index l.schedule
