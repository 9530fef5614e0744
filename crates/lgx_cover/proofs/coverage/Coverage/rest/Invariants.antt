use Rattle.std.proofs.Common.{◌≡◌, ◌+◌, ◌-◌, ◌≤◌, ◌++◌, List, replicate}
use Rattle.spec_machine.specs.declared.event.Event.{Event}
use Rattle.spec_machine.specs.declared.event.Event.TheVariants.{Cpu}
use Rattle.spec_machine.specs.Project.{Project}
use Rattle.lgx_core.specs.Represents.{StandsFor}
use Rattle.lgx_cover.proofs.coverage.Coverage.rest.Given as goal

abbrev pub invariant-loop-left : goal.invariant-loop-left
invariant-loop-left l = record {
  within : l.left ≤ l.count;
  spent : l.self.controller.spent + l.left ≡ l.initial.self.controller.spent + l.count;
  tables : l.self.tables ≡ l.initial.self.tables;
  stands : (project : Project) (events : List Event) → StandsFor project events l.initial.self.controller → StandsFor project (events ++ replicate (l.count - l.left) Cpu) l.self.controller;
}

abbrev pub decreases-loop-left : goal.decreases-loop-left
decreases-loop-left l = l.left
