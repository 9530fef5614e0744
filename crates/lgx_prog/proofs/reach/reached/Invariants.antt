use Rattle.std.proofs.Common.{◌≡◌}
use Rattle.spec_scan.specs.Position.{ProgramRungs}
use Rattle.lgx_prog.specs.Search.{AreFlat}
use Rattle.lgx_prog.proofs.Reaches.{Searched}
use Rattle.lgx_prog.proofs.reach.reached.Given as goal

-- so many of those that were found are examined
abbrev pub invariant-loop-i : goal.invariant-loop-i
invariant-loop-i l = (program : ProgramRungs) → program.main ≡ l.fn.main → AreFlat l.fn.routines program.routines → Searched program l.i l.search
