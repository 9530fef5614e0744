use Rattle.std.proofs.Common.{rules, append_assoc}
use Rattle.cmd_explore.specs.ToldTexts.{comment_line}
use Rattle.cmd_explore.proofs.text_out.comment_line.Goals as goal

pub returns : goal.returns
unfolding comment_line
returns c = search (rules, append_assoc)
