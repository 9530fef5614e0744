use Rattle.std.proofs.Common.{arith}
use Rattle.std.proofs.lemmas.Grind.{common_steps}
use Rattle.lgx_chart.proofs.Texts.{joined_parts}
use Rattle.lgx_chart.proofs.text_out.push_joined.Goals as goal

pub returns-in_ok-push-in-len1-up : goal.returns-in_ok-push-in-len1-up
returns-in_ok-push-in-len1-up c =
    let all = joined_parts c.args.mark c.first-item.result c.args.words.now (omega arith) in
    grind (arith, common_steps, all)
