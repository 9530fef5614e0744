-- The instructions of a rung.
use Rattle.std.specs.Prelude.{ℕ, length}
use Rattle.lgx_rung.specs.Tree.{instructions, Source}

abbrev pub rung_count : Source → ℕ
rung_count rung = length (instructions rung)
