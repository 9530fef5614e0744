-- What the limits of a file give.
use Rattle.std.proofs.Common.{◌<◌, length, arith}
use Rattle.std.specs.Prelude.{⊤}
use Rattle.std.specs.List.{AllByRecursion as Each}
use Rattle.spec_base.proofs.Lists.{each_map}
use Rattle.spec_project.specs.declared.described.Described.{Described}
use Rattle.spec_project.specs.Limits.{HasFewMembers, IsSmallProgram, IsWithinLimits}
use Rattle.lgx_types.specs.Tables.{HasMembers}
use Rattle.lgx_declare.specs.Few.{HasFewNames}

-- few enough for their numbers
pub few_names : (p : Described) → IsWithinLimits p → HasFewNames p
few_names p l = record {
  programs = omega (arith, l.programs.few);
  routines = each_map IsSmallProgram (λ q. length q.routines < 4294967296) p.programs (λ q s. omega (arith, s.routines.few)) l.programs.each;
  tasks = omega (arith, l.tasks.few);
  connections = omega (arith, l.connections.few);
  any = each_map IsSmallProgram (λ q. ⊤) p.programs (λ q s. tt) l.programs.each;
}

-- each structure has members
pub each_has_members : (p : Described) → IsWithinLimits p → Each HasMembers p.types
each_has_members p l = each_map HasFewMembers HasMembers p.types (λ t m. (omega (arith, m.enough), omega (arith, m.few))) l.types.each
