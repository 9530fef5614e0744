-- The base is flat code of the routines' rungs.
use Rattle.std.proofs.Common.{◌≡◌, ◌<◌, List, length, map, [], arith, refl, sym, subst, ap, ◌∙◌}
use Rattle.std.proofs.lemmas.List.{length-map}
use Rattle.spec_scan.specs.Position.{Rungs}
use Rattle.spec_machine.specs.Project as machine
use Rattle.lgx_prog.specs.Search.{AreFlat}
use Rattle.lgx_prog.proofs.Examined.{as_many}
use Rattle.lgx_versions.specs.Roles.{only_base}
use Rattle.lgx_edit.specs.declared.changes.EditedRoutine.{EditedRoutine}
use Rattle.lgx_edit.specs.declared.texts.RoutineText.{RoutineText}
use Rattle.lgx_edit.specs.Texts.{routine_of, base_of, merged_of}
use Rattle.lgx_edit.proofs.Tied.{tied-along}
use Rattle.lgx_edit.proofs.NewPrograms.{new-tied}
use Rattle.lgx_edit.proofs.edits.ProgramEdits.new.Goals as goal

pub of-requires-clause-main : goal.of-requires-clause-main
of-requires-clause-main c =
    let rs = c.args.text.routines in
    let edited = c.in_ok-routines.routines.items in
    let rungs : List Rungs = map (λ (t : machine.RoutineText). t.checked) (map base_of edited) in
    let flat : AreFlat c.in_ok-flats.flats.items rungs = subst (λ (xs : List EditedRoutine). AreFlat c.in_ok-flats.flats.items (map (λ (t : machine.RoutineText). t.checked) (map base_of xs))) c.deref.ensures.value c.in_ok-flats.ensures in
    let count : length (map base_of edited) ≡ length rs =
    ap (λ (ts : List machine.RoutineText). length ts) c.in_ok-routines.ensures.base ∙ (length-map c.into_vec.result.items routine_of ∙ ap (λ (xs : List RoutineText). length xs) c.into_vec.ensures) in
    subst (λ n. c.args.text.main < n) (sym (as_many c.in_ok-flats.flats.items rungs flat ∙ (length-map (map base_of edited) (λ (t : machine.RoutineText). t.checked) ∙ count))) c.requires

pub invariant_of-result : goal.invariant_of-result
invariant_of-result c =
    let rs = c.args.text.routines in
    let edited = c.in_ok-routines.routines.items in
    let rungs : List Rungs = map (λ (t : machine.RoutineText). t.checked) (map base_of edited) in
    let flat : AreFlat c.in_ok-flats.flats.items rungs = subst (λ (xs : List EditedRoutine). AreFlat c.in_ok-flats.flats.items (map (λ (t : machine.RoutineText). t.checked) (map base_of xs))) c.deref.ensures.value c.in_ok-flats.ensures in
    let base : map base_of edited ≡ map routine_of rs = c.in_ok-routines.ensures.base ∙ ap (λ (xs : List RoutineText). map routine_of xs) c.into_vec.ensures in
    let merged : map merged_of edited ≡ map routine_of rs = c.in_ok-routines.ensures.merged ∙ ap (λ (xs : List RoutineText). map routine_of xs) c.into_vec.ensures in
    tied-along c.args.text.name c.args.text.main edited edited c.new-2.result.items [] c.in_ok-versions.versions.roles (only_base c.in_ok-base.base)
    refl c.new-2.ensures.items c.in_ok-versions.ensures
    (new-tied c.args.text.name c.args.text.main rs edited c.in_ok-base.base base merged (c.in_ok-base.ensures rungs flat) c.requires (omega arith))
