-- Places that lie in an image.
use Rattle.std.specs.Prelude.{◌≡◌, ℕ, List, Some, slice_get}
use Rattle.lgx_num.specs.declared.place.Place.{Place}
use Rattle.lgx_num.specs.Image.{InBounds}

abbrev pub AreInside : List Place → ℕ → Type 0
AreInside places len = (n : ℕ) (p : Place) → slice_get places n ≡ Some p → InBounds p len
