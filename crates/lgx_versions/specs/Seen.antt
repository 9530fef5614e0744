-- What the fields are seen as, and what always holds of them.
use Rattle.std.specs.Prelude.{◌≡◌, ℕ, ◌≤◌, length, Some, option_map, is_some, IsTrue, IsSome}
use Rattle.lgx_versions.specs.declared.slots.TheConstants.{SLOTS}
use Rattle.lgx_versions.specs.declared.versions.Versions.TheInside.{Inside}
use Rattle.lgx_versions.specs.Roles.{Roles}
use Rattle.lgx_versions.specs.View.{VersionsView, number_at, NoneTwice}
use Rattle.lgx_versions.specs.Slots.{in_slot, version_at, numbers_in, uses}

abbrev pub roles_of : Inside → Roles
roles_of v = record {
  base = version_at v.slots v.places.base;
  merged = option_map (version_at v.slots) v.places.merged;
  testing = v.places.testing;
  held = option_map (version_at v.slots) v.places.held;
  newest = v.newest;
}

abbrev pub view_of : Inside → VersionsView
view_of v = record { roles = roles_of v; slots = numbers_in v.slots }

-- A version lies in a slot exactly if it is used. Versions differ in their numbers, which go up to the newest. Only a
-- merged program is tested.
pub record AreSlots (v : Inside) : Type 0 where
  pub count : length v.slots ≡ SLOTS
  pub filled : (i : ℕ) → is_some (in_slot v.slots i) ≡ uses v.places i
  pub once : NoneTwice (numbers_in v.slots)
  pub numbered : (i n : ℕ) → number_at (numbers_in v.slots) i ≡ Some n → n ≤ v.newest
  pub tested : IsTrue v.places.testing → IsSome v.places.merged
