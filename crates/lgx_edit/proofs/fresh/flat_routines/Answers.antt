-- One routine more is flat.
use Rattle.std.proofs.Common.{◌≡◌, ◌+◌, ◌<◌, [], List, map, take, length, get_or, ap, sym, subst, ◌∙◌}
use Rattle.std.proofs.lemmas.List.{get_or-map, length-map}
use Rattle.spec_machine.specs.Project as machine
use Rattle.spec_machine.specs.Edits.{no_routine}
use Rattle.spec_scan.specs.Position.{Rungs}
use Rattle.lgx_prog.specs.Flat.{Flat, IsFlat}
use Rattle.lgx_prog.specs.Search.{AreFlat}
use Rattle.lgx_prog.proofs.Examined.{flat_more}
use Rattle.lgx_edit.specs.declared.changes.EditedRoutine.{EditedRoutine}
use Rattle.lgx_edit.specs.Shared.{checkeds}
use Rattle.lgx_edit.specs.Texts.{base_of}
use Rattle.lgx_edit.proofs.fresh.flat_routines.Goals as goal

pub loop-routine-preserved : goal.loop-routine-preserved
loop-routine-preserved c =
    let rs = c.args.routines.now in
    let bases : List machine.RoutineText = map base_of rs in
    let i = c.loop-routine.routine-index in
    let rungs : List Rungs = map (λ (r : machine.RoutineText). r.checked) bases in
    let within : i < length bases = subst (λ n. i < n) (sym (length-map rs base_of)) c.loop-routine-test.true in
    let below : i < length rungs = subst (λ n. i < n) (sym (length-map bases (λ (r : machine.RoutineText). r.checked))) within in
    let there : checkeds c.as_slice.result.now ≡ get_or rungs i [] = ap checkeds c.as_slice.ensures ∙ (ap (λ (r : EditedRoutine). (base_of r).checked) c.routine-item.is
    ∙ (ap (λ (r : machine.RoutineText). r.checked) (sym (get_or-map base_of rs i c.routine-item.result no_routine c.loop-routine-test.true))
    ∙ sym (get_or-map (λ (r : machine.RoutineText). r.checked) bases i no_routine [] within))) in
    subst (λ (flats : List Flat). AreFlat flats (take (i + 1) rungs)) (sym c.in_ok-push.ensures.items)
    (flat_more c.loop-routine.flats.items rungs i c.in_ok-flat.flat c.loop-routine.invariant below
    (subst (λ (r : Rungs). IsFlat c.in_ok-flat.flat r) there c.in_ok-flat.ensures))
