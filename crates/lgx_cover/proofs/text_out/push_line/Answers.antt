use Rattle.std.proofs.Common.{rules, append_assoc}
use Rattle.lgx_cover.specs.Texts.{count_line}
use Rattle.lgx_cover.proofs.text_out.push_line.Goals as goal

pub returns : goal.returns
unfolding count_line
returns c = search (rules, append_assoc)
