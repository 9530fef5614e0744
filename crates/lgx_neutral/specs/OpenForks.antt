-- The forks that are open, as they are held.
use Rattle.std.specs.Prelude.{List, ◌∷◌, reverse, Option, Some, None}
use Rattle.lgx_rung.specs.Tokens.{Fork}

-- the innermost one first
abbrev pub forks_of : Option Fork → List Fork → List Fork
forks_of None outer = reverse outer
forks_of (Some inner) outer = inner ∷ reverse outer
