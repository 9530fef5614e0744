-- One queue more is empty.
use Rattle.std.proofs.Common.{◌∙◌, List, [], ℕ, set, ap}
use Rattle.std.proofs.lemmas.List.Edits.{map_over_more}
use Rattle.lgx_sched.proofs.queue.empty.Goals as goal

pub loop-queue-preserved : goal.loop-queue-preserved
loop-queue-preserved c =
    ap (λ (q : List ℕ). set c.loop-queue.queues c.loop-queue.queue-index q) c.clear.ensures
    ∙ map_over_more (λ (q : List ℕ). []) c.args.queues.now c.loop-queue.queues c.loop-queue.queue-index c.queue-item.result c.loop-queue-test.true c.loop-queue.invariant c.queue-item.is
