-- By the controller's tick and by whether a CPS is open.
use Rattle.std.proofs.Common.{sym, ◌∙◌}
use Rattle.lgx_walker.proofs.Counted.{not_yet, come_told, held_told, free_told}
use Rattle.lgx_walker.proofs.due.is_due.Goals as goal
use Rattle.lgx_walker.proofs.due.is_due.Goals.{then-is_holdable, else-is_holdable}

pub returns-after-is_holdable : goal.returns-after-is_holdable
returns-after-is_holdable c = λ project events lane stands. elim c.if-is_holdable.branch [
  | then-is_holdable w ↦ come_told project events lane c.args.timed.now c.now.result c.if-is_holdable.result (c.now.ensures _ stands.represents) c.if-timed-now.true (w.result-is ∙ held_told project events lane c.args.timed.now w.copy_open.result (sym c.is_holdable.ensures ∙ w.if-is_holdable.true) (w.copy_open.ensures _ stands.represents))
  | else-is_holdable w ↦ come_told project events lane c.args.timed.now c.now.result c.if-is_holdable.result (c.now.ensures _ stands.represents) c.if-timed-now.true (w.result-is ∙ (w.if-is_holdable.false ∙ free_told project events lane c.args.timed.now (sym c.is_holdable.ensures ∙ w.if-is_holdable.false)))
]

pub returns-else-timed-now : goal.returns-else-timed-now
returns-else-timed-now c = λ project events lane stands. not_yet project events lane c.args.timed.now c.now.result (c.now.ensures _ stands.represents) c.if-timed-now.false
