-- A plain rung has no labels.
use Rattle.lgx_edit.specs.Picks.{pick_source}
use Rattle.lgx_edit.proofs.Passing.{no_labels}
use Rattle.lgx_edit.proofs.passes.add_labels_of.Goals as goal

pub returns-then-is_old_and_plain : goal.returns-then-is_old_and_plain
returns-then-is_old_and_plain c = no_labels c.args.number (pick_source c.args.pick.now) c.args.checker.now (c.is_old_and_plain.ensures c.if-is_old_and_plain.true)
