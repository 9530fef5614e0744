use Rattle.std.proofs.Common.{sym, ◌∙◌}
use Rattle.lgx_link.proofs.Headers.{names_found}
use Rattle.lgx_link.proofs.header.names_of.Goals as goal

pub returns : goal.returns
returns c =
    names_found c.args.output.now c.args.input.now c.in-Some.output c.in-Some-name_of.input (sym c.in-Some.is ∙ c.name_of.ensures) (sym c.in-Some-name_of.is ∙ c.name_of-2.ensures)
