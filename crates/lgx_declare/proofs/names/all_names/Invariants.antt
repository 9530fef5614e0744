use Rattle.std.proofs.Common.{◌≡◌, map, take}
use Rattle.lgx_declare.proofs.names.all_names.Given as goal

abbrev pub invariant-loop-i : goal.invariant-loop-i
invariant-loop-i g l = l.index ≡ take l.i (map g.T.Named.name_of l.things)
