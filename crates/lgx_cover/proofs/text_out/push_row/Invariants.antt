use Rattle.std.proofs.Common.{◌≡◌, ◌≤◌, ◌++◌, flat_map, length, get_or}
use Rattle.lgx_cover.specs.Counts.{falling}
use Rattle.lgx_cover.specs.Tables.{no_counts}
use Rattle.lgx_cover.specs.Texts.{place_text}
use Rattle.lgx_cover.specs.RowTexts.{row_text}
use Rattle.lgx_cover.proofs.text_out.push_row.Given as goal

abbrev pub invariant-loop-left : goal.invariant-loop-left
invariant-loop-left l = record {
  within : l.left ≤ length l.row;
  rest : l.text.items ++ flat_map (λ n. place_text l.version l.routine n (get_or l.row n no_counts)) (falling l.left) ≡ l.initial.text.items ++ row_text l.version l.routine l.row;
}

abbrev pub decreases-loop-left : goal.decreases-loop-left
decreases-loop-left l = l.left
