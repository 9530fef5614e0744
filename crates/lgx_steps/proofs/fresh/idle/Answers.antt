-- Another task without progress.
use Rattle.std.proofs.Common.{◌+◌, length, refl, ap, ◌∙◌, subst, sym}
use Rattle.std.specs.List.{AllByRecursion as Each}
use Rattle.std.proofs.lemmas.List.{length-append}
use Rattle.spec_base.proofs.Lists.{each_append}
use Rattle.lgx_steps.specs.PartsView.{IsIdle}
use Rattle.lgx_steps.proofs.fresh.idle.Goals as goal

pub loop-task-preserved : goal.loop-task-preserved
loop-task-preserved c =
    let all = c.loop-task.all.items in
    record {
      many = ap length c.in_ok-push.ensures.items ∙ (length-append all _ ∙ ap (λ k. k + 1) c.loop-task.invariant.many);
      idle = subst (Each IsIdle) (sym c.in_ok-push.ensures.items) (each_append IsIdle all _ c.loop-task.invariant.idle (record { ended = refl; scan = refl; flags = refl }, tt));
    }
