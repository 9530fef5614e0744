use Rattle.std.proofs.Common.{◌++◌, map, option_map, ap, sym, ◌∙◌}
use Rattle.spec_base.specs.Pieces.{pieces}
use Rattle.spec_text.specs.ActionText.{edit_of, each_some}
use Rattle.lgx_journal.proofs.Parts.{part_added, plain_after}
use Rattle.lgx_journal.proofs.edits.add_parts.Goals as goal

pub loop-part-preserved : goal.loop-part-preserved
loop-part-preserved c =
    let old = c.loop-part.edits.items in
    let part = c.in-Some.part.now in
    let after = c.in-Some.after.now in
    record {
      same =
          part_added old c.add_edit.new.edits.items part (pieces 124 after) (rw c.if-not-branch.false at c.in_ok-add_edit.ensures)
          ∙ ap (λ ps. option_map (λ es. old ++ es) (each_some (map edit_of ps))) (sym c.in-Some.ensures.some)
          ∙ c.loop-part.invariant.same;
      plain = plain_after 124 c.loop-part.rest.now part after c.in-Some.ensures.whole c.loop-part.invariant.plain;
    }
