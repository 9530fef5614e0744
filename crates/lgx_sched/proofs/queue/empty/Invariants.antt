use Rattle.std.proofs.Common.{◌≡◌, ◌++◌, [], drop, take, map}
use Rattle.lgx_sched.proofs.queue.empty.Given as goal

abbrev pub invariant-loop-queue : goal.invariant-loop-queue
invariant-loop-queue l = l.queues ≡ map (λ q. []) (take l.queue-index l.fn.queues) ++ drop l.queue-index l.fn.queues
