-- Lists of a described project that aren't too long for their numbers.
use Rattle.std.specs.Prelude.{◌<◌, length, ⊤}
use Rattle.std.specs.List.{AllByRecursion as Each}
use Rattle.spec_project.specs.declared.described.Described.{Described}

pub record HasFewNames (p : Described) : Type 0 where
  pub programs : length p.programs < 4294967296
  pub routines : Each (λ q. length q.routines < 4294967296) p.programs
  pub tasks : length p.tasks < 4294967296
  pub connections : length p.connections < 4294967296
  -- no more is asked of the programs
  pub any : Each (λ q. ⊤) p.programs
