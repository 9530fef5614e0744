-- Lists each of whose elements has a property: one that is there, and all that a map makes.
use Rattle.std.proofs.Common.{ℕ, ◌<◌, zero, suc, List, [], ◌∷◌, length, get_or, map, arith}
use Rattle.std.specs.List.{AllByRecursion as Each}

module _ {A : Type 0} (P : A → Type 0) where
  pub each-at : (xs : List A) (i : ℕ) (d : A) → Each P xs → i < length xs → P (get_or xs i d)
  each-at [] i d h l = absurd (omega arith)
  each-at (x ∷ xs) zero d h l = h.0
  each-at (x ∷ xs) (suc i) d h l = each-at xs i d h.1 (omega arith)

  pub each-of_map : {B : Type 0} (f : B → A) (ys : List B) → ((y : B) → P (f y)) → Each P (map f ys)
  each-of_map f [] h = tt
  each-of_map f (y ∷ ys) h = (h y, each-of_map f ys h)
