use Rattle.std.proofs.Common.{List, map, ap, ◌∙◌}
use Rattle.spec_language.specs.declared.names.TaskName.{TaskName}
use Rattle.lgx_edit.specs.declared.plant.Watch.{Watch}
use Rattle.lgx_edit.specs.declared.texts.ProgramText.{ProgramText}
use Rattle.lgx_record.proofs.Making.{made_names}
use Rattle.lgx_record.proofs.names.names_of.Goals as goal

pub returns : goal.returns
returns c =
    made_names c.project.inside c.args.project.now c.in_ok-task_names.field-0 c.in_ok-program_names.field-0 c.in_ok-watch_texts.field-0
    (c.in_ok-task_names.ensures ∙ ap (λ (ts : List TaskName). map (λ (t : TaskName). t.name) ts) c.as_slice.ensures)
    (c.in_ok-program_names.ensures ∙ ap (λ (qs : List ProgramText). map (λ (q : ProgramText). q.name) qs) c.as_slice-2.ensures)
    (c.in_ok-watch_texts.ensures ∙ ap (λ (ws : List Watch). map (λ (w : Watch). w.text) ws) c.as_slice-3.ensures)
    c.project.view_is
