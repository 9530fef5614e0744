use Rattle.std.proofs.Common.{◌∙◌}
use Rattle.lgx_link.proofs.Added.{line_more}
use Rattle.lgx_link.proofs.lines.push_lines.Goals as goal

pub loop-i-preserved : goal.loop-i-preserved
loop-i-preserved c =
    line_more c.args.letter.now c.names-names.result.now c.log-log.result.now.lines c.loop-i.i c.loop-i.text.items c.extend_from_slice.new.self.items c.push_line_text.new.text.items c.in_ok-extend_from_slice.ensures.items c.in_ok-push_line_text.ensures
    ∙ c.loop-i.invariant
