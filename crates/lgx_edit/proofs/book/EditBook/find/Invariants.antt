-- The first program of the name is among those from the index on.
use Rattle.std.proofs.Common.{◌≡◌, drop}
use Rattle.std.specs.List.{position_from}
use Rattle.lgx_num.specs.Name.{same}
use Rattle.lgx_edit.specs.EditsView.{books}
use Rattle.lgx_edit.proofs.book.EditBook.find.Given as goal

abbrev pub invariant-loop-n : goal.invariant-loop-n
invariant-loop-n l =
    position_from (λ b. same b.name l.program) 0 (books l.fn.self) ≡ position_from (λ b. same b.name l.program) l.n (books (drop l.n l.fn.self))
