-- The rungs of the base are known, since the base is checked.
use Rattle.std.proofs.Common.{sym, subst}
use Rattle.lgx_edit.specs.Drafts.{scope_against}
use Rattle.lgx_edit.specs.Picks.{AreKnown}
use Rattle.lgx_edit.proofs.Picking.{texts_known}
use Rattle.lgx_edit.proofs.draft.merged_text.Goals as goal

pub check-requires-clause-known : goal.check-requires-clause-known
check-requires-clause-known c =
    let routines = c.args.routines.now in
    let scope = scope_against c.args.against.now routines in
    c.in_ok-picks.ensures.known scope
    (subst (AreKnown scope) (sym c.as_slice.ensures) (texts_known scope routines c.args.routine c.index-routines-routine.result c.requires.within c.index-routines-routine.is c.requires.checked))
