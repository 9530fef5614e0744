-- The accept on the program's own book.
use Rattle.std.proofs.Common.{◌≡◌, Ok, subst}
use Rattle.spec_machine.specs.Commands.{AcceptCommand}
use Rattle.spec_machine.specs.Edits.{program_named}
use Rattle.lgx_edit.specs.EditsView.{books}
use Rattle.lgx_edit.proofs.OfAll.{accept-leaves, number_left, checked-there}
use Rattle.lgx_edit.proofs.book.EditBook.accept.Goals as goal

pub accept-requires-clause-number : goal.accept-requires-clause-number
accept-requires-clause-number c =
    number_left c.self.inside.programs.items c.args.self.now c.in_ok-n.n c.index_mut.result.now c.self.view_is c.in_ok-n.ensures.within c.index_mut.ensures.value c.requires.numbers

pub accept-requires-clause-checked : goal.accept-requires-clause-checked
accept-requires-clause-checked c =
    checked-there c.args.tags.now.declarations c.args.tasks.now c.self.inside.programs.items c.args.self.now c.in_ok-n.n c.index_mut.result.now c.self.view_is c.in_ok-n.ensures.within c.index_mut.ensures.value c.requires.checked

pub returns : goal.returns
returns c =
    accept-leaves c.args.tags.now.declarations c.args.tasks.now c.args.lane c.in_ok-n.n c.args.command.now c.self.inside.programs.items c.args.self.now
    c.index_mut.result.now c.accept.new.self c.accept.result c.self.view_is
    (subst (λ (command : AcceptCommand). Ok c.in_ok-n.n ≡ program_named (books c.args.self.now) command.program) c.command.view_is c.in_ok-n.ensures.named)
    c.in_ok-n.ensures.within c.index_mut.ensures.value c.accept.ensures
