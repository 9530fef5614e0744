-- One routine more is done.
use Rattle.std.proofs.Common.{◌∙◌, set, ap, sym}
use Rattle.std.proofs.lemmas.List.Edits.{map_over_more}
use Rattle.lgx_edit.specs.declared.changes.EditedRoutine.{EditedRoutine}
use Rattle.lgx_edit.specs.Texts.{cancelled}
use Rattle.lgx_edit.proofs.changes.cancel_all.Goals as goal

pub loop-routine-preserved : goal.loop-routine-preserved
loop-routine-preserved c =
    let xs = c.loop-routine.routines in
    let i = c.loop-routine.routine-index in
    ap (λ (r : EditedRoutine). set xs i r) c.cancel.ensures
    ∙ (ap (λ (r : EditedRoutine). set xs i (cancelled r)) (sym c.routine-item.is)
    ∙ map_over_more cancelled c.args.routines.now xs i c.routine-item.result c.loop-routine-test.true c.loop-routine.invariant c.routine-item.is)
