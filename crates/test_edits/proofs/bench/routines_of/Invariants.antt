-- The routines so far were checked against the names of all.
use Rattle.std.proofs.Common.{map}
use Rattle.lgx_check.specs.Scopes.{scope_of}
use Rattle.test_edits.specs.Programs.{MadeOf}
use Rattle.test_edits.proofs.bench.routines_of.Given as goal

abbrev pub invariant-loop-routine : goal.invariant-loop-routine
invariant-loop-routine l = MadeOf (scope_of l.scope) (map (λ r. r.name) l.yielded) l.routines.items
