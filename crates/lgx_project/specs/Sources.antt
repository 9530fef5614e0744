-- The rungs that texts spell.
use Rattle.std.specs.Prelude.{ℕ, List}
use Rattle.std.specs.List.{filter_map}
use Rattle.std.specs.Result.{result_ok}
use Rattle.lgx_rung.specs.Tree.{Source}
use Rattle.lgx_rung.specs.Tokens.{read_rung}

-- if each spells one
abbrev pub sources : List (List ℕ) → List Source
sources texts = filter_map (λ text. result_ok (read_rung text)) texts
