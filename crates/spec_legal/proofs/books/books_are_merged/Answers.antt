-- Each event keeps it.
use Rattle.spec_legal.proofs.MergedBooks.{books-are-merged}
use Rattle.spec_legal.proofs.books.books_are_merged.Goals as goal

pub returns : goal.returns
returns c = books-are-merged
