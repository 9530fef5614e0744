-- As many routines are flat as there are.
use Rattle.std.proofs.Common.{◌<◌, List, map, sym, subst, ◌∙◌}
use Rattle.std.proofs.lemmas.List.{length-map, length-set}
use Rattle.spec_machine.specs.Project as machine
use Rattle.lgx_prog.proofs.Examined.{as_many}
use Rattle.lgx_edit.specs.Drafts.{routines_with}
use Rattle.lgx_edit.specs.Texts.{merged_of, text_of}
use Rattle.lgx_edit.proofs.draft.program_with.Goals as goal

pub of-requires-clause-main : goal.of-requires-clause-main
of-requires-clause-main c =
    let rs : List machine.RoutineText = routines_with c.args.changed c.args.text.now c.args.routines.now in
    subst (λ n. c.args.main < n)
    (sym (as_many c.in_ok-flats.flats.items (map (λ (r : machine.RoutineText). r.checked) rs) c.in_ok-flats.ensures
    ∙ (length-map rs (λ (r : machine.RoutineText). r.checked)
    ∙ (length-set (map merged_of c.args.routines.now) c.args.changed (text_of c.args.text.now) ∙ length-map c.args.routines.now merged_of)))) c.requires
