use Rattle.cmd_laws.proofs.Traced.{traces_say_yes}
use Rattle.cmd_laws.proofs.laws.traces_say_yes.Goals as goal

pub returns : goal.returns
returns c = traces_say_yes
