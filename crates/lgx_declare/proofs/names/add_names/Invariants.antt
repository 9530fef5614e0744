use Rattle.std.proofs.Common.{◌≡◌, map, take, drop}
use Rattle.spec_project.specs.Faults.{first_from}
use Rattle.spec_project.specs.Names.{name_fault, repeated_name}
use Rattle.lgx_declare.proofs.names.add_names.Given as goal

abbrev pub invariant-loop-i : goal.invariant-loop-i
invariant-loop-i g l = record {
  goes : first_from (name_fault (map g.T.Named.name_of l.things)) l.i (map g.T.Named.name_of (drop l.i l.things)) ≡ repeated_name (map g.T.Named.name_of l.things);
  index : l.index ≡ take l.i (map g.T.Named.name_of l.things);
}
