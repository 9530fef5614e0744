use Rattle.std.proofs.Common.{◌≡◌, ◌++◌, true, take, drop, codes}
use Rattle.std.specs.List.{flat_map, list_all}
use Rattle.spec_text.specs.TextLines.{spaced}
use Rattle.spec_text.specs.ActionText.{edit_words}
use Rattle.lgx_journal.specs.Written.{is_kept_edit}
use Rattle.lgx_journal.proofs.write.push_parts.Given as goal

abbrev pub invariant-loop-edit : goal.invariant-loop-edit
invariant-loop-edit l = record {
  text : l.text.items ++ flat_map (λ e. codes " | " ++ spaced (edit_words e)) (drop l.edit-index l.edits) ≡ l.initial.text.items ++ flat_map (λ e. codes " | " ++ spaced (edit_words e)) l.edits;
  kept : list_all is_kept_edit (take l.edit-index l.edits) ≡ true;
}
