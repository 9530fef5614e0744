use Rattle.std.proofs.Common.{◌≡◌, take, drop, map}
use Rattle.std.specs.Prelude.{flat_map}
use Rattle.std.specs.List.{enumerate_from}
use Rattle.spec_language.specs.TypeFaults.{structure_faults}
use Rattle.lgx_types.specs.Outlines.{name_faults, member_names, outline}
use Rattle.lgx_types.proofs.resolved.add_all_members.Given as goal

abbrev pub invariant-loop-i : goal.invariant-loop-i
invariant-loop-i l = record {
  members : l.members.items ≡ map (λ d. member_names d.members) (take l.i l.decls);
  outlines : l.outlines.items ≡ map (λ d. outline l.decls d.members) (take l.i l.decls);
  faults : flat_map (structure_faults l.decls) (enumerate_from l.i (drop l.i l.decls)) ≡ name_faults l.decls;
}
