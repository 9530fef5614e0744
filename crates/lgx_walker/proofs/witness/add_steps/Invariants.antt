-- That many steps are there.
use Rattle.std.proofs.Common.{◌≡◌}
use Rattle.lgx_walker.specs.Trails.{with_steps}
use Rattle.lgx_walker.proofs.witness.add_steps.Given as goal

abbrev pub invariant-loop-k : goal.invariant-loop-k
invariant-loop-k l = l.journal.events ≡ with_steps l.script l.initial.journal.events l.k
