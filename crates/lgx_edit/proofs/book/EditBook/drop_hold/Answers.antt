-- The other programs are as before.
use Rattle.std.proofs.Common.{None}
use Rattle.lgx_edit.proofs.OfAll.{same-books, new-holds}
use Rattle.lgx_edit.proofs.book.EditBook.drop_hold.Goals as goal

pub returns-clause-books : goal.returns-clause-books
returns-clause-books c =
    same-books c.self.inside.programs.items c.args.self.now c.args.program c.index_mut.result.now c.drop_hold.new.self
    c.self.view_is c.index_mut.ensures.value c.drop_hold.ensures.book

pub returns-clause-held : goal.returns-clause-held
returns-clause-held c =
    new-holds c.self.inside.programs.items c.args.self.now c.args.program c.drop_hold.new.self None c.self.view_is c.drop_hold.ensures.held
