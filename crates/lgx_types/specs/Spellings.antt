-- Names in order, their spellings in lower case, each once, and for each spelling the number of the first name that is
-- spelled so.
use Rattle.std.specs.Prelude.{◌≡◌, ◌≤◌, ℕ, List, map, length, nat_eq, Bool, Vec, option_map, slice_index}
use Rattle.std.specs.declared.alloc.Global.{Global}
use Rattle.std.specs.Char.{to_ascii_lowercase}
use Rattle.std.specs.Cmp.Lexicographic.{pointwise}
use Rattle.std.specs.List.{AllByRecursion as Each, position_from}
use Rattle.spec_base.specs.declared.limits.TheConstants.{MAX_NAME_BYTES}
use Rattle.lgx_num.specs.Name.{same}

-- whether a spelling has these bytes
abbrev pub finds : List ℕ → Vec ℕ Global → Bool
finds text spelling = pointwise nat_eq text spelling.items

-- the length of a name
abbrev pub IsShort : List ℕ → Type 0
IsShort name = length name ≤ MAX_NAME_BYTES

-- a name is found by its spelling as it is found among the names
pub record IsIndex (names : List (List ℕ)) (spellings : List (Vec ℕ Global)) (firsts : List ℕ) : Type 0 where
  pub short : Each IsShort names
  pub long : length firsts ≡ length spellings
  pub found : (text : List ℕ) → option_map (λ k. slice_index firsts k) (position_from (finds (map to_ascii_lowercase text)) 0 spellings) ≡ position_from (λ name. same name text) 0 names
