-- A checker: the scope with an index of its routines, and the routine's labels.
use Rattle.std.specs.Prelude.{◌^◌, ◌≡◌, ◌<◌, true, length, Result}
use Rattle.lgx_rung.specs.Tree.{SourceIns}
use Rattle.lgx_rung.specs.declared.fault.CheckFault.{CheckFault}
use Rattle.lgx_rung.specs.declared.ins.Ins.{Ins}
use Rattle.spec_language.specs.Checked as checking
use Rattle.lgx_check.specs.declared.checker.Checker.{Checker}
use Rattle.lgx_check.specs.Scopes.{scope_of}

pub record IsReady (c : Checker) : Type 0 where
  pub sealed : c.scope.now.tags.now.sealed ≡ true
  pub few_tasks : length c.scope.now.tasks.now < 2 ^ 32

-- the scope, with the routines of the index
abbrev pub checked_scope : Checker → checking.CheckScope
checked_scope c = record (scope_of c.scope.now) { routines = c.routines }

-- what it makes of an instruction
abbrev pub check_of : Checker → checking.Spot → SourceIns → Result Ins CheckFault
check_of c = checking.instruction_of (checked_scope c) c.labels
