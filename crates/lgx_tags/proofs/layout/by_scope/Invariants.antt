use Rattle.std.proofs.Common.{◌≡◌, take}
use Rattle.lgx_tags.specs.Layouts.{rows_of}
use Rattle.lgx_tags.proofs.layout.by_scope.Given as goal

abbrev pub invariant-loop-i : goal.invariant-loop-i
invariant-loop-i l = l.rows.items ≡ rows_of (take l.i l.entries) l.programs
