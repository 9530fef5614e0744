use Rattle.std.proofs.Common.{map, ap, ◌∙◌}
use Rattle.spec_machine.specs.Project.{Project, ProgramText}
use Rattle.cmd_trace.specs.TracePlan.{trace_text}
use Rattle.cmd_trace.proofs.Going.{under_way, all_left}
use Rattle.cmd_trace.proofs.trace_lines.lines_of.Goals as goal

pub invariant_of-result : goal.invariant_of-result
invariant_of-result c =
    under_way c.read.inside.project c.read.inside.file.items c.in_ok-names.names.items c.in_ok-controller.controller c.args.journal.events c.read.invariant
    (c.in_ok-names.ensures ∙ ap (λ (p : Project). map (λ (q : ProgramText). q.name) p.programs) c.parts.ensures) c.in_ok-controller.ensures.stands c.requires

pub returns : goal.returns
returns c =
    all_left c.read.inside.project c.read.inside.file.items c.in_ok-controller.controller c.args.journal.events c.read.invariant c.in_ok-controller.ensures.stands
    ∙ ap (λ (p : Project). trace_text p c.args.journal.events) c.read.view_is
