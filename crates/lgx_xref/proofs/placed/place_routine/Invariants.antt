-- The instructions of as many rungs as were passed.
use Rattle.std.proofs.Common.{◌≡◌, ◌++◌, take}
use Rattle.std.specs.Prelude.{flat_map}
use Rattle.std.specs.List.{enumerate_from}
use Rattle.spec_uses.specs.Uses.{sites_of_rung}
use Rattle.lgx_xref.proofs.placed.place_routine.Given as goal

abbrev pub invariant-loop-i : goal.invariant-loop-i
invariant-loop-i l = l.placed.items ≡ l.fn.placed.items ++ flat_map (sites_of_rung l.program l.routine_number) (enumerate_from 0 (take l.i l.rungs))
