use Rattle.cmd_live.proofs.Opening.{said}
use Rattle.cmd_live.proofs.open.say.Goals as goal

pub returns : goal.returns
returns g c = λ told noted. said told noted _ _ c.put_whole.result c.args.verdict c.args.text.now _ c.put_whole.ensures.says c.put_whole.ensures.written c.status_after.ensures
