use Rattle.std.proofs.Common.{◌≡◌, take}
use Rattle.lgx_types.specs.Outlines.{names_of}
use Rattle.lgx_types.proofs.structures.add_names.Given as goal

abbrev pub invariant-loop-i : goal.invariant-loop-i
invariant-loop-i l = l.names ≡ names_of (take l.i l.decls)
