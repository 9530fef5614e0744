-- The rungs that edits take, by counting. A replacement and a deletion take their rung of the base, and no rung is taken twice.
use Rattle.std.specs.Prelude.{◌≡◌, ℕ, suc, ◌+◌, ◌<◌, List, take, flat_map, Bool, false, nat_eq, Option, Some, None, ◌↔◌}
use Rattle.std.specs.List.{count_by}
use Rattle.spec_machine.specs.declared.event.RungEdit.{RungEdit}
use Rattle.spec_machine.specs.declared.event.RungEdit.TheVariants.{Replace, Insert, Delete}
use Rattle.spec_machine.specs.Edits.{Change, Replaced, Inserted, Deleted, taken_by, first_again}

abbrev pub takes_rung : ℕ → RungEdit → Bool
takes_rung i (Replace k text) = nat_eq i k
takes_rung i (Delete k) = nat_eq i k
takes_rung i (Insert k text) = false

-- likewise an accepted change
abbrev pub took_rung : ℕ → Change → Bool
took_rung i (Replaced k new) = nat_eq i k
took_rung i (Deleted k) = nat_eq i k
took_rung i (Inserted k new) = false

-- how many of a routine's accepted changes and of the first n edits take rung i
abbrev pub takers : List Change → List RungEdit → ℕ → ℕ → ℕ
takers changes edits n i = count_by (took_rung i) changes + count_by (takes_rung i) (take n edits)

-- edit k, from 0, takes a rung that is taken before it: it's one taker more, and not the first
pub record TakesAgain (changes : List Change) (edits : List RungEdit) (k : ℕ) : Type 0 where
  pub rung : ℕ
  pub taken : 0 < takers changes edits k rung
  pub takes : takers changes edits k rung < takers changes edits (suc k) rung

-- the first edit that does so, or none
abbrev pub IsFirstAgain : List Change → List RungEdit → Option ℕ → Type 0
IsFirstAgain changes edits None = (k : ℕ) → TakesAgain changes edits k → ⊥
IsFirstAgain changes edits (Some k) = TakesAgain changes edits k × ((j : ℕ) → j < k → TakesAgain changes edits j → ⊥)

-- the cause E6 of an accept on a routine with these accepted changes is this, and nothing else
abbrev pub AgainIsCounted : Type 0
AgainIsCounted = (changes : List Change) (edits : List RungEdit) (o : Option ℕ) → (first_again 0 (flat_map taken_by changes) edits ≡ o) ↔ IsFirstAgain changes edits o
