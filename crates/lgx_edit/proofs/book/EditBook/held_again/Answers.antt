-- The program of this number tells it.
use Rattle.std.proofs.lemmas.Option.{IfSome_then}
use Rattle.lgx_edit.proofs.HeldAlready.{if_none-then, holds-again, holds-other}
use Rattle.lgx_edit.proofs.book.EditBook.held_again.Goals as goal

pub returns-clause-held : goal.returns-clause-held
returns-clause-held c = IfSome_then c.held_again.result c.held_again.ensures.held
    (λ n h. holds-again c.self.inside.programs.items c.args.self.now c.args.program c.index.result.now c.self.view_is c.requires c.index.ensures n h)

pub returns-clause-other : goal.returns-clause-other
returns-clause-other c = if_none-then c.held_again.result c.held_again.ensures.other
    (λ apart. holds-other c.self.inside.programs.items c.args.self.now c.args.program c.index.result.now c.self.view_is c.requires c.index.ensures apart)
