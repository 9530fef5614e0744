use Rattle.std.proofs.Common.{◌≡◌, ◌++◌, length, map, option_map, IsTrue}
use Rattle.spec_base.specs.Pieces.{pieces}
use Rattle.spec_text.specs.ActionText.{edit_of, each_some}
use Rattle.lgx_journal.specs.Lines.{is_plain}
use Rattle.lgx_journal.proofs.edits.add_parts.Given as goal

abbrev pub invariant-loop-part : goal.invariant-loop-part
invariant-loop-part l = record {
  same : option_map (λ es. l.edits.items ++ es) (each_some (map edit_of (pieces 124 l.rest))) ≡ option_map (λ es. l.initial.edits.items ++ es) (each_some (map edit_of (pieces 124 l.text)));
  plain : IsTrue (is_plain l.rest);
}

abbrev pub decreases-loop-part : goal.decreases-loop-part
decreases-loop-part l = length l.rest
