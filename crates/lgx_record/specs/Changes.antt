-- The lines of watched places that changed, from their numbers before and after.
use Rattle.std.specs.Prelude.{◌≡◌, ◌≢◌, ℕ, ◌+◌, ◌≤◌, ◌<◌, Bool, true, false, List, [], ◌∷◌, ◌++◌, map, length, ℤ, pos, Some, slice_get, slice_index_or, if◌then◌else◌}
use Rattle.spec_base.specs.declared.limits.TheConstants.{MAX_IMAGE_BYTES}
use Rattle.lgx_num.specs.Number.{int_eq}
use Rattle.lgx_num.specs.Image.{number, InBounds}
use Rattle.lgx_num.specs.declared.place.Place.{Place}
use Rattle.lgx_image.specs.Grains.{ImageView}
use Rattle.lgx_image.specs.Laws.{AllWatched}
use Rattle.lgx_watch.specs.Watches.{LiesInNoHit, is_member}
use Rattle.spec_machine.specs.declared.line.Line.{Line}
use Rattle.spec_machine.specs.declared.line.Line.TheVariants.{Set}

-- the numbers at places of an image
abbrev pub numbers_at : List ℕ → List Place → List ℤ
numbers_at image places = map (number image) places

-- watched place number w has a line if its number has changed
abbrev pub change_line : ℕ → ℤ → ℤ → List Line
change_line w old new = if int_eq old new then [] else Set w new ∷ []

-- each watched place in turn, where the first is number n
abbrev pub change_lines : ℕ → List ℤ → List ℤ → List Line
change_lines n [] new = []
change_lines n (v ∷ vs) [] = []
change_lines n (v ∷ vs) (u ∷ us) = change_line n v u ++ change_lines (n + 1) vs us

-- ---- what is known of watched places before they are compared

-- they lie in an image, which isn't too large
pub record AreInside (places : List Place) (image : List ℕ) : Type 0 where
  pub small : length image ≤ MAX_IMAGE_BYTES
  pub inside : (w : ℕ) (p : Place) → slice_get places w ≡ Some p → InBounds p (length image)

-- every word that holds a byte of one of these places is watched
abbrev pub AreWatched : List Place → List Bool → Type 0
AreWatched places watched = (w : ℕ) (p : Place) → slice_get places w ≡ Some p → AllWatched watched p

-- one that lies in no word that is hit has the number that it had when it was last compared
pub record AreAsCompared (places : List Place) (values : List ℤ) (image : ImageView) : Type 0 where
  pub many : length values ≡ length places
  pub same : (w : ℕ) (p : Place) → slice_get places w ≡ Some p → LiesInNoHit image.hits p → slice_index_or values w (pos 0) ≡ number image.bytes p

-- a set has each that has a byte in a word that is hit, and none but watched places
pub record HasWritten (places : List Place) (hits set : List Bool) : Type 0 where
  pub members : (w : ℕ) (p : Place) → slice_get places w ≡ Some p → is_member set w ≡ false → LiesInNoHit hits p
  pub known : (w : ℕ) → is_member set w ≡ true → w < length places

-- all watched places but number n lie in no word that is hit
abbrev pub IsLoneWritten : List Place → List Bool → ℕ → Type 0
IsLoneWritten places hits n = (w : ℕ) (p : Place) → slice_get places w ≡ Some p → w ≢ n → LiesInNoHit hits p
