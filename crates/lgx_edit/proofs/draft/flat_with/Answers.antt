-- One routine more is flat.
use Rattle.std.proofs.Common.{◌≡◌, ◌+◌, ◌<◌, [], List, map, take, length, get_or, ap, sym, subst, ◌∙◌}
use Rattle.std.proofs.lemmas.List.{get_or-map, length-map, length-set}
use Rattle.spec_machine.specs.Project as machine
use Rattle.spec_machine.specs.Edits.{no_routine}
use Rattle.spec_scan.specs.Position.{Rungs}
use Rattle.lgx_prog.specs.Flat.{Flat, IsFlat}
use Rattle.lgx_prog.specs.Search.{AreFlat}
use Rattle.lgx_prog.proofs.Examined.{flat_more}
use Rattle.lgx_edit.specs.Drafts.{routines_with}
use Rattle.lgx_edit.specs.Shared.{checkeds}
use Rattle.lgx_edit.specs.Texts.{merged_of, text_of}
use Rattle.lgx_edit.proofs.draft.flat_with.Goals as goal

pub loop-k-preserved : goal.loop-k-preserved
loop-k-preserved c =
    let rs : List machine.RoutineText = routines_with c.args.changed c.args.text.now c.args.routines.now in
    let i = c.loop-k.k in
    let rungs : List Rungs = map (λ (r : machine.RoutineText). r.checked) rs in
    let within : i < length rs = subst (λ n. i < n) (sym (length-set (map merged_of c.args.routines.now) c.args.changed (text_of c.args.text.now) ∙ length-map c.args.routines.now merged_of)) c.loop-k-test.true in
    let below : i < length rungs = subst (λ n. i < n) (sym (length-map rs (λ (r : machine.RoutineText). r.checked))) within in
    let there : checkeds c.as_slice.result.now ≡ get_or rungs i [] = ap checkeds c.as_slice.ensures ∙ (ap (λ (r : machine.RoutineText). r.checked) c.text_at.ensures
    ∙ sym (get_or-map (λ (r : machine.RoutineText). r.checked) rs i no_routine [] within)) in
    subst (λ (flats : List Flat). AreFlat flats (take (i + 1) rungs)) (sym c.in_ok-push.ensures.items)
    (flat_more c.loop-k.flats.items rungs i c.in_ok-flat.flat c.loop-k.invariant below
    (subst (λ (r : Rungs). IsFlat c.in_ok-flat.flat r) there c.in_ok-flat.ensures))
