-- One rung more is joined.
use Rattle.std.proofs.Common.{List, subst, sym}
use Rattle.lgx_rung.specs.Tree.{Tree}
use Rattle.lgx_rung.specs.declared.ins.Ins.{Ins}
use Rattle.lgx_prog.specs.Joining.{Joins}
use Rattle.lgx_edit.specs.Shared.{checkeds}
use Rattle.lgx_edit.proofs.Sharing.{checkeds_more}
use Rattle.lgx_edit.proofs.fresh.joined.Goals as goal

pub loop-rung-preserved : goal.loop-rung-preserved
loop-rung-preserved c =
    subst (λ (rungs : List (Tree Ins)). Joins c.add.new.self rungs) (sym (checkeds_more c.args.rungs.now c.loop-rung.rung-index c.rung-item.result c.loop-rung-test.true c.rung-item.is))
    (c.in_ok-add.ensures (checkeds _) c.rung-item.result.checked c.loop-rung.invariant c.code.ensures)
