-- Names with the places of their labels.
use Rattle.std.specs.Prelude.{ℕ, List, [], ◌∷◌}
use Rattle.spec_language.specs.Checked.{Label}
use Rattle.lgx_check.specs.declared.label.LabelPlace.{LabelPlace}

abbrev pub labels_at : List (List ℕ) → List LabelPlace → List Label
labels_at (name ∷ names) (place ∷ places) = record { name = name; rung = place.rung; ins = place.ins } ∷ labels_at names places
labels_at _ _ = []
