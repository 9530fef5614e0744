-- What runs is what was checked: in every run each book's rungs are those that the check of their source gives.
use Rattle.std.specs.Prelude.{◌≡◌, ℕ, ◌<◌, ◌≤◌, List, length, Ok}
use Rattle.std.specs.List.{AllByRecursion as Each, count_by}
use Rattle.spec_language.specs.Checked.{checked}
use Rattle.spec_machine.specs.declared.event.Event.{Event}
use Rattle.spec_machine.specs.Edits.{Book, book_at, routine_at, changes_in, scope_of}
use Rattle.spec_machine.specs.Machine.{run}
use Rattle.spec_machine.specs.Project.{Project}
use Rattle.spec_legal.specs.EditByEdit.{with_edits}
use Rattle.spec_laws.specs.TakenRungs.{took_rung}

-- of the base rungs, and of the merged ones, whose source is the base's with the accepted edits
pub record IsCheckedBook (p : Project) (n : ℕ) (b : Book) : Type 0 where
  pub base : Each (λ r. checked (scope_of p.tags p.names n b) r.source ≡ Ok r.checked) b.base
  pub many : length b.merged ≡ length b.base
  pub merged_ones : (r : ℕ) → r < length b.base → checked (scope_of p.tags p.names n b) (with_edits (routine_at b.base r).source (changes_in b r)) ≡ Ok (routine_at b.merged r).checked
  -- no rung of a routine's base is taken by two of its accepted edits
  pub taken_once : (r i : ℕ) → count_by (took_rung i) (changes_in b r) ≤ 1

-- A scan runs the rungs of its book that were selected when it began: this is the version law.
abbrev pub BooksAreChecked : Project → Type 0
BooksAreChecked p = (journal : List Event) (n : ℕ) → n < length p.programs → IsCheckedBook p n (book_at (run p journal).books n)
