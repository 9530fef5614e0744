use Rattle.std.proofs.Common.{◌<◌, ℕ, List, [], length, sym, ◌∙◌, ap, subst}
use Rattle.std.specs.Prelude.{slice_index_or}
use Rattle.spec_machine.specs.Project.{Project}
use Rattle.cmd_trace.proofs.FewPrograms.{few_in_task}
use Rattle.cmd_trace.proofs.table.table_of.Goals as goal

pub audit_tasks-requires-clause-few : goal.audit_tasks-requires-clause-few
audit_tasks-requires-clause-few c =
    subst (λ (s : List (List ℕ)). (t : ℕ) → t < length s → length (slice_index_or s t []) < 4294967296) (sym (c.as_slice-2.ensures ∙ ap (λ (p : Project). p.schedule) c.project.view_is))
    (few_in_task c.args.project.now c.law_of_validity.ensures)
