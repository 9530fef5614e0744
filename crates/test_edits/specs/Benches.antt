-- What always holds of a bench.
use Rattle.std.specs.Prelude.{◌≡◌, true, []}
use Rattle.lgx_edit.specs.EditsView.{books}
use Rattle.lgx_edit.specs.CheckedBooks.{AreChecked}
use Rattle.test_edits.specs.declared.bench.Bench.TheInside.{Inside}

-- The tags are sealed, and the rungs of the book are those that its sources give against them; there is no task.
pub record IsBench (b : Inside) : Type 0 where
  pub sealed : b.tags.value.sealed ≡ true
  pub checked : AreChecked b.tags.value.declarations [] (books b.book)
