use Rattle.std.proofs.Common.{◌≡◌, take, drop}
use Rattle.std.specs.Prelude.{flat_map}
use Rattle.std.specs.List.{enumerate_from}
use Rattle.spec_language.specs.TypeFaults.{member_faults}
use Rattle.lgx_types.specs.Outlines.{faults_in, member_names, outline}
use Rattle.lgx_types.proofs.resolved.add_members.Given as goal

abbrev pub invariant-loop-k : goal.invariant-loop-k
invariant-loop-k l = record {
  names : l.names ≡ member_names (take l.k l.members);
  types : l.types.items ≡ outline l.structures (take l.k l.members);
  faults : flat_map (member_faults l.structures l.i l.members) (enumerate_from l.k (drop l.k l.members)) ≡ faults_in l.structures l.i l.members;
}
