use Rattle.std.proofs.Common.{length, sym, ap, ◌∙◌, arith}
use Rattle.std.specs.Prelude.{sum_by}
use Rattle.lgx_edit.specs.declared.texts.ProgramText.{ProgramText}
use Rattle.cmd_project.specs.CheckPlan.{routine_count}
use Rattle.cmd_project.proofs.Sums.{routine_count_is, can_be_counted}
use Rattle.cmd_project.proofs.check.routines_in.Goals as goal

pub routine_count-requires : goal.routine_count-requires
routine_count-requires c =
    let few = (can_be_counted _ c.project.invariant.valid).0 in
    rw c.as_slice.ensures (omega (arith, few, routine_count_is c.project.inside.texts))

pub returns : goal.returns
returns c =
    c.routine_count.ensures ∙ ap (sum_by (λ (p : ProgramText). length p.routines)) c.as_slice.ensures ∙ sym (routine_count_is c.project.inside.texts) ∙ ap (λ p. routine_count p.programs) c.project.view_is
