use Rattle.std.proofs.Common.{◌≡◌, map, take, drop}
use Rattle.spec_project.specs.Faults.{at_place, first_from, first_at}
use Rattle.spec_project.specs.Places.{connection_fault, connection_of}
use Rattle.lgx_places.proofs.connections.read_each.Given as goal

abbrev pub invariant-loop-i : goal.invariant-loop-i
invariant-loop-i l = record {
  goes : first_from (λ i x. at_place i (connection_fault l.file x)) l.i (drop l.i l.connections) ≡ first_at (connection_fault l.file) l.connections;
  made : l.made.items ≡ map (connection_of l.file) (take l.i l.connections);
}
