-- A rung is larger than what is in it.
use Rattle.std.specs.Prelude.{ℕ, ◌+◌, ◌≤◌, List, [], ◌∷◌}
use Rattle.std.proofs.Common.{arith}
use denote.Param.Weighed.{most}
use Rattle.lgx_rung.specs.Tree.{Tree, end, one, fork, Legs, last, leg, legs_of}

abbrev mutual
  pub tree_size : {A : Type 0} → Tree A → ℕ
  tree_size end = 0
  tree_size (one i rest) = tree_size rest + 1
  tree_size (fork t legs rest) = tree_size t + legs_size legs + tree_size rest + 3

  pub legs_size : {A : Type 0} → Legs A → ℕ
  legs_size last = 0
  legs_size (leg t legs) = tree_size t + legs_size legs + 1

abbrev pub list_size : {A : Type 0} → List (Tree A) → ℕ
list_size ts = legs_size (legs_of ts)

pub legs_fall : {A : Type 0} (ts : List (Tree A)) → most (λ k. tree_size k + 1) ts ≤ list_size ts
legs_fall [] = omega arith
legs_fall (t ∷ ts) = omega (arith, legs_fall ts)
