-- Values that may be missing.
use Rattle.std.specs.Prelude.{◌≡◌, List, [], ◌∷◌, ◌++◌, Option, Some, None, option_map, refl}
use Rattle.std.specs.Option.{option_or}
use Rattle.std.proofs.Common.{ap, append_assoc}

pub or_none : {A : Type 0} (o : Option A) → option_or o None ≡ o
or_none None = refl
or_none (Some x) = refl

-- one more element before a list that may be missing
pub front_more : {A : Type 0} (done : List A) (x : A) (o : Option (List A)) → option_map (λ xs. (done ++ x ∷ []) ++ xs) o ≡ option_map (λ xs. done ++ xs) (option_map (λ xs. x ∷ xs) o)
front_more done x None = refl
front_more done x (Some xs) = ap Some (append_assoc done (x ∷ []) xs)
