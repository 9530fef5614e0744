use Rattle.cmd_trace.proofs.Traced.{runs_are_legal, traces_say_yes}
use Rattle.cmd_trace.proofs.laws.traces_are_legal.Goals as goal

pub returns-clause-legal : goal.returns-clause-legal
returns-clause-legal c = runs_are_legal

pub returns-clause-yes : goal.returns-clause-yes
returns-clause-yes c = traces_say_yes
