-- The other programs are as before.
use Rattle.lgx_edit.proofs.OfAll.{same-books, holds-now}
use Rattle.lgx_edit.proofs.book.EditBook.hold.Goals as goal

pub returns-clause-books : goal.returns-clause-books
returns-clause-books c =
    same-books c.self.inside.programs.items c.args.self.now c.args.program c.index_mut.result.now c.hold.new.self
    c.self.view_is c.index_mut.ensures.value c.hold.ensures.held.book

pub returns-clause-held : goal.returns-clause-held
returns-clause-held c =
    holds-now c.self.inside.programs.items c.args.self.now c.args.program c.hold.result c.index_mut.result.now c.hold.new.self
    c.self.view_is c.requires.known c.index_mut.ensures.value c.hold.ensures.number c.hold.ensures.held
