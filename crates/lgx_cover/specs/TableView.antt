-- The table of a version as contracts see it.
use Rattle.std.specs.Prelude.{List, [], refl}
use Rattle.std.specs.Coded.{Coded, code_by}
use Rattle.lgx_cover.specs.declared.version.Version.{Version}
use Rattle.lgx_cover.specs.declared.row.Counts.{Counts}

-- the version, and its rows, one for each routine
pub record TableView : Type 0 where
  pub version : Version
  pub rows : List (List Counts)

abbrev pub no_table : TableView
no_table = record { version = record { program = 0; number = 0 }; rows = [] }

-- stored as its fields
abbrev pub table_code : Coded (Version × List (List Counts)) → Coded TableView
table_code parts = code_by (Version × List (List Counts)) parts (λ t. (t.version, t.rows)) (λ p. record { version = p.0; rows = p.1 }) (λ _. refl)
