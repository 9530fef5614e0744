-- The programs so far are without edits.
use Rattle.std.proofs.Common.{◌≡◌, map, None}
use Rattle.spec_machine.specs.Edits.{book_of}
use Rattle.lgx_edit.specs.Texts.{program_of}
use Rattle.lgx_edit.specs.EditsView.{books, holds}
use Rattle.lgx_edit.proofs.book.EditBook.new.Given as goal

abbrev pub invariant-loop-text : goal.invariant-loop-text
invariant-loop-text l =
    (books l.edits.items ≡ map (λ p. book_of (program_of p)) l.yielded) × (holds l.edits.items ≡ map (λ p. None) l.yielded)
