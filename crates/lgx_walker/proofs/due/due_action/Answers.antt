-- By the lane's count.
use Rattle.std.proofs.Common.{sym, ◌∙◌}
use Rattle.lgx_walker.proofs.Counted.{due_some, due_later}
use Rattle.lgx_walker.proofs.due.due_action.Goals as goal

pub returns-then-is_due : goal.returns-then-is_due
returns-then-is_due c = λ project events stands told.
    sym (due_some project c.args.script.now events c.args.lane c.args.done told c.in_ok-timed.timed.now (sym c.in_ok-timed.ensures) (sym (c.is_due.ensures project events c.args.lane stands) ∙ c.if-is_due.true))

pub returns-else-is_due : goal.returns-else-is_due
returns-else-is_due c = λ project events stands told.
    sym (due_later project c.args.script.now events c.args.lane c.args.done told c.in_ok-timed.timed.now (sym c.in_ok-timed.ensures) (sym (c.is_due.ensures project events c.args.lane stands) ∙ c.if-is_due.false))
