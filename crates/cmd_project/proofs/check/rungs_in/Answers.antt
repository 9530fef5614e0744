use Rattle.std.proofs.Common.{length, sym, ap, ◌∙◌, arith}
use Rattle.std.specs.Prelude.{sum_by}
use Rattle.lgx_edit.specs.declared.texts.ProgramText.{ProgramText}
use Rattle.cmd_project.specs.CheckPlan.{rung_count}
use Rattle.cmd_project.proofs.Sums.{rung_count_is, can_be_counted}
use Rattle.cmd_project.proofs.check.rungs_in.Goals as goal

pub rung_count-requires : goal.rung_count-requires
rung_count-requires c =
    let few = (can_be_counted _ c.project.invariant.valid).1 in
    rw c.as_slice.ensures (omega (arith, few, rung_count_is c.project.inside.texts))

pub returns : goal.returns
returns c =
    c.rung_count.ensures ∙ ap (sum_by (λ (p : ProgramText). sum_by (λ r. length r.source) p.routines)) c.as_slice.ensures ∙ sym (rung_count_is c.project.inside.texts) ∙ ap (λ p. rung_count p.programs) c.project.view_is
