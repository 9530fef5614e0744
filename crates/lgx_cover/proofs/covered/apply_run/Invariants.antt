use Rattle.std.proofs.Common.{◌++◌, List, replicate}
use Rattle.spec_machine.specs.declared.event.Event.{Event}
use Rattle.spec_machine.specs.Project.{Project}
use Rattle.lgx_cover.specs.Covers.{Covers}
use Rattle.lgx_cover.proofs.covered.apply_run.Given as goal

abbrev pub invariant-loop : goal.invariant-loop
invariant-loop l = record {
  covers : (project : Project) (events : List Event) → Covers l.initial.coverage project events → Covers l.coverage project (events ++ replicate l.counter l.event);
}
