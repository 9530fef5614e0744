use Rattle.std.proofs.Common.{◌≡◌, flat_map, take}
use Rattle.lgx_cover.specs.RowTexts.{table_text}
use Rattle.lgx_cover.proofs.text_out.text_of.Given as goal

abbrev pub invariant-loop-table : goal.invariant-loop-table
invariant-loop-table l = record { text : l.text.items ≡ flat_map table_text (take l.table-index l.tables) }
