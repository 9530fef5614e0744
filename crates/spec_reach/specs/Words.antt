-- Where the I/O words of a valid project lie.
use Rattle.std.specs.Prelude.{◌≡◌, ℕ, ◌+◌, ◌<◌, ◌≤◌, Bool, List, length, Some, Ok}
use Rattle.spec_tables.specs.declared.conn.Slot.{Slot}
use Rattle.spec_tables.specs.Connections.{words_of, slot}
use Rattle.spec_machine.specs.Project.{Project}
use Rattle.spec_machine.specs.ValidProject.{IsValidProject}

-- its four bytes lie in the image, its number is one of all words', and what it triggers is a task
pub record IsSlotOf (p : Project) (k : Slot) : Type 0 where
  pub bytes : k.byte + 4 ≤ length p.image
  pub number : k.io < words_of p.conns
  pub trigger : (t : ℕ) → k.trigger ≡ Some t → t < length p.tasks

abbrev pub SlotsAreInImage : Type 0
SlotsAreInImage = (p : Project) (name : List ℕ) (word : ℕ) (output : Bool) (k : Slot) → IsValidProject p → slot p.conns name word output ≡ Ok k → IsSlotOf p k
