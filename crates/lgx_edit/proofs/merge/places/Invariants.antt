-- One place for each rung so far.
use Rattle.std.proofs.Common.{◌≡◌}
use Rattle.std.specs.Prelude.{replicate}
use Rattle.lgx_edit.specs.Merging.{nothing_around}
use Rattle.lgx_edit.proofs.merge.places.Given as goal

abbrev pub invariant-loop-rung : goal.invariant-loop-rung
invariant-loop-rung l = l.places.items ≡ replicate l._rung-index nothing_around
