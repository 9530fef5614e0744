use Rattle.std.proofs.Common.{◌∙◌}
use Rattle.lgx_laws.proofs.EditsAt.{edit_at}
use Rattle.lgx_laws.proofs.edits.answers_on.Goals as goal

pub returns : goal.returns
returns c ns past h = c.answers_edit.ensures ∙ edit_at c.args.books.now ns past h _ c.args.g c.requires c.args.verb c.args.lane c.args.answer
