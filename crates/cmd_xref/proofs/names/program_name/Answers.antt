use Rattle.std.proofs.Common.{◌∙◌}
use Rattle.cmd_xref.proofs.NamesAt.{program_at}
use Rattle.cmd_xref.proofs.names.program_name.Goals as goal

pub returns-in-Some : goal.returns-in-Some
returns-in-Some c =
    let found = c.in-Some.ensures.lookup in
    c.bytes.ensures.bytes ∙ program_at c.args.programs.now c.args.number c.in-Some.program.now found.3.0 found.1
