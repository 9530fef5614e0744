use Rattle.std.proofs.Common.{◌≡◌, ◌+◌, ◌-◌, ◌≤◌, ◌++◌, List, replicate}
use Rattle.spec_machine.specs.declared.event.Event.{Event}
use Rattle.spec_machine.specs.declared.event.Event.TheVariants.{Cpu}
use Rattle.spec_machine.specs.Project.{Project}
use Rattle.lgx_cover.specs.Covers.{Covers}
use Rattle.lgx_cover.proofs.coverage.Coverage.steps.Given as goal

abbrev pub invariant-loop-left : goal.invariant-loop-left
invariant-loop-left l = record {
  within : l.left ≤ l.count;
  spent : l.self.controller.spent + l.left ≡ l.initial.self.controller.spent + l.count;
  covers : (project : Project) (events : List Event) → Covers l.initial.self project events → Covers l.self project (events ++ replicate (l.count - l.left) Cpu);
}

abbrev pub decreases-loop-left : goal.decreases-loop-left
decreases-loop-left l = l.left
