use Rattle.std.proofs.Common.{◌≡◌, ℕ, ◌<◌, ◌++◌, [], List, length, flat_map, get_or, ap, ap₂, ◌∙◌, append_assoc, arith}
use Rattle.std.specs.List.{range_with_len}
use Rattle.std.proofs.lemmas.List.{get_or_default}
use Rattle.lgx_cover.specs.declared.version.Version.{Version}
use Rattle.lgx_cover.specs.declared.row.Counts.{Counts}
use Rattle.lgx_cover.specs.RowTexts.{row_text}
use Rattle.lgx_cover.proofs.Texts.{rows_more}
use Rattle.lgx_cover.proofs.text_out.push_table.Goals as goal

pub loop-routine-preserved : goal.loop-routine-preserved
loop-routine-preserved c =
    let k = c.loop-routine.routine in
    let rows = c.args.table.now.rows in
    let v = c.args.table.now.version in
    let below : k < length c.rows-rows.result.now = omega arith in
    let row : c.as_slice.result.now ≡ get_or rows k [] = c.as_slice.ensures ∙ (c.index-rows-routine.is ∙ (get_or_default c.rows-rows.result.now k c.index-rows-routine.result [] below ∙ ap (λ (rs : List (List Counts)). get_or rs k []) c.rows-rows.ensures)) in
    let says : row_text c.version.result k c.as_slice.result.now ≡ row_text v k (get_or rows k []) = ap₂ (λ (w : Version) (r : List Counts). row_text w k r) c.version.ensures row in
    let f : ℕ → List ℕ = λ r. row_text v r (get_or rows r []) in
    record {
      text =
          c.in_ok-push_row.ensures
          ∙ (ap₂ (λ (a b : List ℕ). a ++ b) c.loop-routine.invariant.text says
          ∙ (append_assoc c.args.text.now.items (flat_map f (range_with_len 0 k)) (f k) ∙ ap (λ t. c.args.text.now.items ++ t) (rows_more f k)));
    }
