-- What is held already is what is selected.
use Rattle.std.specs.Prelude.{◌≡◌, ℕ, List, Some}
use Rattle.spec_machine.specs.Edits.{book_at, selected_number}
use Rattle.lgx_versions.specs.declared.slots.Version.{Version}
use Rattle.lgx_versions.specs.Roles.{selected}
use Rattle.lgx_edit.specs.EditsView.{EditsView, RunsSelected, books, held_at}

-- The held program is the selected one, has this number, and is flat code of the selected rungs.
pub record IsHeldAgain (number : ℕ) (e : EditsView) : Type 0 where
  pub held : e.versions.roles.held ≡ Some (selected e.versions.roles)
  pub numbered : (selected e.versions.roles).number ≡ number
  pub selects : number ≡ selected_number e.book
  pub runs : RunsSelected (selected e.versions.roles).program e.book

-- Of program n this version is held; it has the number that is selected, and is flat code of the rungs that are selected.
pub record HoldsAgain (n number : ℕ) (all : List EditsView) : Type 0 where
  pub version : Version
  pub held : held_at all n ≡ Some version
  pub numbered : version.number ≡ number
  pub selects : number ≡ selected_number (book_at (books all) n)
  pub runs : RunsSelected version.program (book_at (books all) n)
