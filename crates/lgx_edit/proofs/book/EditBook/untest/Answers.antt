-- The command on the program's own book.
use Rattle.spec_machine.specs.Edits.{untest}
use Rattle.lgx_edit.proofs.OfAll.{command-leaves}
use Rattle.lgx_edit.proofs.book.EditBook.untest.Goals as goal

pub returns : goal.returns
returns c =
    command-leaves untest c.args.lane c.in_ok-n.n c.args.program.now c.self.inside.programs.items c.args.self.now
    c.index_mut.result.now c.untest.new.self c.untest.result c.self.view_is c.in_ok-n.ensures.named c.in_ok-n.ensures.within
    c.index_mut.ensures.value c.untest.ensures
