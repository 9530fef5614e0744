-- What callers see: the versions, and in which slots they lie.
use Rattle.std.specs.Prelude.{◌≡◌, ℕ, List, length, Option, Some, None, option_map, slice_index_or, ◌⊎◌}
use Rattle.lgx_versions.specs.declared.slots.TheConstants.{SLOTS}
use Rattle.lgx_versions.specs.declared.slots.Version.{Version}
use Rattle.lgx_versions.specs.Roles.{Roles}

-- the versions by their roles, and the number of the one in each slot
pub record VersionsView : Type 0 where
  pub roles : Roles
  pub slots : List (Option ℕ)

-- a slot beyond the last is free
abbrev pub number_at : List (Option ℕ) → ℕ → Option ℕ
number_at slots i = slice_index_or slots i None

abbrev pub number_of : Option Version → Option ℕ
number_of version = option_map (λ v. v.number) version

-- the base, the merged or the held program has this number
abbrev pub HasRole : Roles → ℕ → Type 0
HasRole r n = (r.base.number ≡ n) ⊎ ((number_of r.merged ≡ Some n) ⊎ (number_of r.held ≡ Some n))

-- no number is in two slots
abbrev pub NoneTwice : List (Option ℕ) → Type 0
NoneTwice slots = (i j n : ℕ) → number_at slots i ≡ Some n → number_at slots j ≡ Some n → i ≡ j

-- Each program that has a role lies in a slot, and nothing else does. No number is in two slots.
pub record AreSlotsOf (roles : Roles) (slots : List (Option ℕ)) : Type 0 where
  pub count : length slots ≡ SLOTS
  pub kept : (n : ℕ) → HasRole roles n → (i : ℕ) × (number_at slots i ≡ Some n)
  pub others : (i n : ℕ) → number_at slots i ≡ Some n → HasRole roles n
  pub once : NoneTwice slots

-- what lay in a slot lies in no other one afterwards
abbrev pub NoneMoves : List (Option ℕ) → List (Option ℕ) → Type 0
NoneMoves before after = (i j n : ℕ) → number_at before i ≡ Some n → number_at after j ≡ Some n → i ≡ j
