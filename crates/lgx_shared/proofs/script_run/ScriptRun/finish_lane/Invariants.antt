use Rattle.spec_machine.specs.Project.{Project}
use Rattle.spec_text.specs.Scripts.{Script}
use Rattle.lgx_shared.specs.ScriptRun.{as_recorder}
use Rattle.lgx_shared.specs.Follows.{Follows, GoesOn}
use Rattle.lgx_shared.proofs.Finishing.{to_come}
use Rattle.lgx_shared.proofs.script_run.ScriptRun.finish_lane.Given as goal

abbrev pub invariant-loop : goal.invariant-loop
invariant-loop l = ((project : Project) (script : Script) → Follows project script (as_recorder l.fn.self) → Follows project script (as_recorder l.self)) × GoesOn (as_recorder l.fn.self) (as_recorder l.self)

abbrev pub decreases-loop : goal.decreases-loop
decreases-loop l = to_come l.self
