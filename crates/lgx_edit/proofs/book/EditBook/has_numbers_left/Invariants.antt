-- Each program before the index has a number left.
use Rattle.std.proofs.Common.{◌≡◌, drop}
use Rattle.lgx_edit.specs.EditsView.{books}
use Rattle.lgx_edit.specs.Accepting.{has_numbers_left}
use Rattle.lgx_edit.proofs.book.EditBook.has_numbers_left.Given as goal

abbrev pub invariant-loop-edits : goal.invariant-loop-edits
invariant-loop-edits l = has_numbers_left (books l.fn.self) ≡ has_numbers_left (books (drop l.edits-index l.fn.self))
