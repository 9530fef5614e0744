use Rattle.std.proofs.Common.{◌≡◌, ◌++◌, [], flat_map, get_or}
use Rattle.std.specs.List.{range_with_len}
use Rattle.lgx_cover.specs.RowTexts.{row_text}
use Rattle.lgx_cover.proofs.text_out.push_table.Given as goal

abbrev pub invariant-loop-routine : goal.invariant-loop-routine
invariant-loop-routine l = record {
  text : l.text.items ≡ l.initial.text.items ++ flat_map (λ r. row_text l.table.version r (get_or l.table.rows r [])) (range_with_len 0 l.routine);
}
