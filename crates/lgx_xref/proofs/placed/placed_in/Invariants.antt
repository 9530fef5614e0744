-- The instructions of as many routines as were passed.
use Rattle.std.proofs.Common.{◌≡◌, map, take}
use Rattle.std.specs.Prelude.{flat_map}
use Rattle.std.specs.List.{enumerate_from}
use Rattle.lgx_edit.specs.Texts.{routine_of}
use Rattle.spec_uses.specs.Uses.{sites_of_routine}
use Rattle.lgx_xref.proofs.placed.placed_in.Given as goal

abbrev pub invariant-loop-i : goal.invariant-loop-i
invariant-loop-i l = l.placed.items ≡ flat_map (sites_of_routine l.number) (enumerate_from 0 (map routine_of (take l.i l.routines)))
