use Rattle.std.proofs.Common.{◌≤◌, ◌+◌, ◌++◌, List, length, replicate}
use Rattle.spec_base.specs.declared.limits.TheConstants.{MAX_EVENTS}
use Rattle.spec_machine.specs.declared.event.Event.{Event}
use Rattle.spec_machine.specs.Project.{Project}
use Rattle.lgx_record.specs.IsRunOf.{IsRunOf}
use Rattle.lgx_live.specs.Console.{Says}
use Rattle.lgx_live.specs.Output.{text_with}
use Rattle.lgx_live.proofs.Saying.{done}
use Rattle.lgx_live.proofs.turns.take_run.Given as goal

abbrev pub invariant-loop : goal.invariant-loop
invariant-loop g l = record {
  some : (project : Project) × (events : List Event) × IsRunOf l.initial.follow.run project events × (length events + l.run.count ≤ MAX_EVENTS);
  follows : (project : Project) (events : List Event) → IsRunOf l.initial.follow.run project events → IsRunOf l.follow.run project (events ++ replicate l.counter l.run.event);
  says : (project : Project) (events : List Event) → IsRunOf l.initial.follow.run project events → Says (g.C.Console.seen l.initial.console) (g.C.Console.seen l.console) (text_with project events (replicate l.counter l.run.event)) done;
}
