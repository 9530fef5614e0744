-- The output's lines as bytes, for those that write them.
use Rattle.std.proofs.Common.{◌≡◌, List, [], ◌∷◌, ◌++◌, map, flat_map, refl, ap}
use Rattle.std.specs.Prelude.{ℕ, codes}
use Rattle.spec_machine.specs.Report.{Stamped}
use Rattle.spec_link.specs.LinkOutput.{OfA, OfB, written}

pub written_of_a : (f : Stamped → List ℕ) (xs : List Stamped) → flat_map written (map (λ s. OfA (f s)) xs) ≡ flat_map (λ s. codes "a " ++ f s) xs
written_of_a f [] = refl
written_of_a f (x ∷ xs) = ap (λ (t : List ℕ). (codes "a " ++ f x) ++ t) (written_of_a f xs)

pub written_of_b : (f : Stamped → List ℕ) (xs : List Stamped) → flat_map written (map (λ s. OfB (f s)) xs) ≡ flat_map (λ s. codes "b " ++ f s) xs
written_of_b f [] = refl
written_of_b f (x ∷ xs) = ap (λ (t : List ℕ). (codes "b " ++ f x) ++ t) (written_of_b f xs)
