use Rattle.std.proofs.Common.{◌++◌, codes, ◌∙◌, arith}
use Rattle.spec_text.specs.TextLines.{spaced}
use Rattle.spec_text.specs.ActionText.{edit_words}
use Rattle.lgx_journal.proofs.PushedEdits.{part_written, parts_kept}
use Rattle.lgx_journal.proofs.write.push_parts.Goals as goal

pub loop-edit-preserved : goal.loop-edit-preserved
loop-edit-preserved c =
    let edits = c.args.edits.now in
    let i = c.loop-edit.edit-index in
    record {
      text = part_written (λ e. codes " | " ++ spaced (edit_words e)) c.loop-edit.text.items c.push_part.new.text.items edits i c.edit-item.result (omega arith) c.edit-item.is c.in_ok-push_part.ensures.text ∙ c.loop-edit.invariant.text;
      kept = parts_kept edits i c.edit-item.result (omega arith) c.edit-item.is c.loop-edit.invariant.kept c.in_ok-push_part.ensures.kept;
    }
