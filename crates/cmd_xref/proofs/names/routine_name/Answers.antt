use Rattle.std.proofs.Common.{map, ap, ◌∙◌, arith}
use Rattle.spec_text.specs.ReportText.{name}
use Rattle.lgx_edit.specs.declared.texts.RoutineText.{RoutineText}
use Rattle.cmd_xref.proofs.NamesAt.{routine_at, no_program}
use Rattle.cmd_xref.proofs.names.routine_name.Goals as goal

pub returns-in-Some : goal.returns-in-Some
returns-in-Some c =
    let found = c.in-Some.ensures.lookup in
    c.name_in.ensures
    ∙ ap (λ rs. name (map (λ (r : RoutineText). r.name) rs) c.args.routine) c.as_slice.ensures
    ∙ routine_at c.args.programs.now c.args.program c.args.routine c.in-Some.program.now found.3.0 found.1

pub returns-in-None : goal.returns-in-None
returns-in-None c = let found = c.in-None.ensures.lookup in no_program c.args.programs.now c.args.program c.args.routine (omega (arith, found))
