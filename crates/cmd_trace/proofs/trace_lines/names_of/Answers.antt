use Rattle.std.proofs.Common.{List, map, ap, ◌∙◌}
use Rattle.lgx_edit.specs.declared.texts.ProgramText.{ProgramText}
use Rattle.cmd_trace.proofs.ProgramNames.{names_are}
use Rattle.cmd_trace.proofs.trace_lines.names_of.Goals as goal

pub returns : goal.returns
returns c =
    names_are c.project.inside c.args.project.now c.in_ok-names.names.items (c.in_ok-names.ensures ∙ ap (λ (qs : List ProgramText). map (λ (q : ProgramText). q.name) qs) c.as_slice.ensures) c.project.view_is
