-- The text of tables as they are kept.
use Rattle.std.specs.Prelude.{ℕ, List, [], ◌++◌, flat_map, length, slice_index_or}
use Rattle.std.specs.List.{range_with_len}
use Rattle.lgx_cover.specs.declared.version.Version.{Version}
use Rattle.lgx_cover.specs.declared.row.Counts.{Counts}
use Rattle.lgx_cover.specs.Counts.{falling}
use Rattle.lgx_cover.specs.Tables.{no_counts}
use Rattle.lgx_cover.specs.TableView.{TableView}
use Rattle.lgx_cover.specs.Texts.{place_text, end_text}

abbrev pub row_text : Version → ℕ → List Counts → List ℕ
row_text v r row = flat_map (λ l. place_text v r l (slice_index_or row l no_counts)) (falling (length row))

abbrev pub table_text : TableView → List ℕ
table_text t = flat_map (λ r. row_text t.version r (slice_index_or t.rows r [])) (range_with_len 0 (length t.rows))

abbrev pub tables_text : List TableView → List ℕ
tables_text tables = flat_map table_text tables ++ end_text
