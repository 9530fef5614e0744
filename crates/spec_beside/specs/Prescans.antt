-- The prescan of the change to Run changes no byte of a tag that has no writer.
use Rattle.std.specs.Prelude.{◌≡◌, ℕ, List, [], map, slice_index}
use Rattle.spec_machine.specs.Actions.{prescan_all}
use Rattle.spec_machine.specs.Edits.{Book, book_of, selected}
use Rattle.spec_machine.specs.Project.{Project}
use Rattle.spec_machine.specs.ValidProject.{IsValidProject}
use Rattle.spec_uses.specs.Uses.{writers}
use Rattle.spec_uses.specs.Changes.{IsByteOf}

-- as long as each program's own rungs are selected
abbrev pub PrescanWritesBeside : Type 0
PrescanWritesBeside =
    (p : Project) (books : List Book) (image : List ℕ) (k b : ℕ) → IsValidProject p → IsByteOf p k b → writers p k ≡ []
    → map selected books ≡ map (λ q. selected (book_of q)) p.programs
    → slice_index (prescan_all books image) b ≡ slice_index image b
