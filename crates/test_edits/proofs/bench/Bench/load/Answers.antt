-- The book is that of the programs that were checked.
use Rattle.lgx_edit.specs.EditsView.{books}
use Rattle.test_edits.proofs.Checked.{made-checked}
use Rattle.test_edits.proofs.bench.Bench.load.Goals as goal

pub invariant_of-result : goal.invariant_of-result
invariant_of-result c = record {
  sealed = c.in_ok-tags.ensures;
  checked = made-checked c.in_ok-tags.tags.value.declarations c.in_ok-programs.programs.items (books c.in_ok-book.book) c.in_ok-book.ensures
      (rw c.deref.ensures at c.in_ok-programs.ensures);
}
