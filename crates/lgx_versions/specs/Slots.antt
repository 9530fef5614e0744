-- Versions in slots, and which slots are used.
use Rattle.std.specs.Prelude.{◌≡◌, ℕ, Bool, false, ◌||◌, if◌then◌else◌, List, [], map, Option, Some, None, unwrap_or, nat_eq, slice_index_or}
use Rattle.lgx_versions.specs.declared.slots.Version.{Version}
use Rattle.lgx_versions.specs.declared.slots.SlotRoles.{SlotRoles}
use Rattle.lgx_versions.specs.View.{number_of}

abbrev pub in_slot : List (Option Version) → ℕ → Option Version
in_slot slots i = slice_index_or slots i None

abbrev pub no_version : Version
no_version = record { number = 0; program = record { routines = []; main = 0; reached = [] } }

abbrev pub version_at : List (Option Version) → ℕ → Version
version_at slots i = unwrap_or (in_slot slots i) no_version

abbrev pub numbers_in : List (Option Version) → List (Option ℕ)
numbers_in slots = map number_of slots

-- the slot of the selected program
abbrev pub selected_place : SlotRoles → ℕ
selected_place p = if p.testing then unwrap_or p.merged p.base else p.base

abbrev pub is_at : Option ℕ → ℕ → Bool
is_at None i = false
is_at (Some k) i = nat_eq k i

-- a program that is to be kept lies there
abbrev pub uses : SlotRoles → ℕ → Bool
uses p i = nat_eq i p.base || (is_at p.merged i || is_at p.held i)

-- the slots that are used stay as they were, and the others are free
abbrev pub HasFreed : SlotRoles → List (Option Version) → List (Option Version) → Type 0
HasFreed p before after = (i : ℕ) → in_slot after i ≡ (if uses p i then in_slot before i else None)
