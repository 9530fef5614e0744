use Rattle.cmd_explore.proofs.Texts.{answer_says}
use Rattle.cmd_explore.proofs.explored.explored.Goals as goal

pub returns : goal.returns
returns g c =
    answer_says c.args.project c.args.script.now c.args.question.now c.in_ok-told.told c.verdict_of.result c.in_ok-text.text.items c.of.result c.in_ok-told.ensures c.verdict_of.ensures c.of.ensures c.in_ok-text.ensures
