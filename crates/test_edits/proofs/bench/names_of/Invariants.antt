-- The names so far.
use Rattle.std.proofs.Common.{◌≡◌, map, take}
use Rattle.test_edits.proofs.bench.names_of.Given as goal

abbrev pub invariant-loop-routine : goal.invariant-loop-routine
invariant-loop-routine l = l.names.items ≡ map (λ r. r.name) (take l.routine-index l.routines)
