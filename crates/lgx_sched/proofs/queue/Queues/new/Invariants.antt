use Rattle.std.proofs.Common.{◌≡◌, [], replicate}
use Rattle.lgx_sched.proofs.queue.Queues.new.Given as goal

abbrev pub invariant-loop-place : goal.invariant-loop-place
invariant-loop-place l = l.queues.items ≡ replicate l._place []
