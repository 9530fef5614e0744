-- What an accept of rung edits is and keeps.
use Rattle.std.specs.Prelude.{ℕ, List, Bool, ◌&&◌, nat_le}
use Rattle.spec_base.specs.declared.limits.TheConstants.{MAX_EDITS}
use Rattle.spec_machine.specs.declared.event.RungEdit.{RungEdit}

-- the names of a program and of its routine, and the edits of it in order
pub record AcceptCommand : Type 0 where
  pub program : List ℕ
  pub routine : List ℕ
  pub edits : List RungEdit

abbrev pub accept_command : List ℕ → List ℕ → List RungEdit → AcceptCommand
accept_command program routine edits = record { program = program; routine = routine; edits = edits }

-- an accept has at least one edit, and not too many
abbrev pub is_edit_count : ℕ → Bool
is_edit_count n = nat_le 1 n && nat_le n MAX_EDITS
