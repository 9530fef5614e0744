-- The rungs that a book's accepted edits make of its base.
use Rattle.std.specs.Prelude.{◌≡◌, ℕ, List}
use Rattle.spec_machine.specs.declared.event.Event.{Event}
use Rattle.spec_machine.specs.Edits.{Book, book_at, routine_at, changes_in}
use Rattle.spec_machine.specs.Machine.{run}
use Rattle.spec_machine.specs.Project.{Project}
use Rattle.spec_legal.specs.EditByEdit.{with_edits}

-- each routine's merged rungs are those of the base with the accepted changes of the routine, in the order in which they came
abbrev pub IsMerged : Book → Type 0
IsMerged b = (r : ℕ) → (routine_at b.merged r).source ≡ with_edits (routine_at b.base r).source (changes_in b r)

-- so it is of each program's book after every list of events
abbrev pub BooksAreMerged : Project → Type 0
BooksAreMerged p = (journal : List Event) (n : ℕ) → IsMerged (book_at (run p journal).books n)

-- of any project
abbrev pub RunsKeepMerged : Type 0
RunsKeepMerged = (p : Project) → BooksAreMerged p
