-- What laws say of a routine that was checked.
use Rattle.std.specs.Prelude.{List, length, Result, Ok, Err, IfOk}
use Rattle.lgx_rung.specs.Tree.{Tree, Source}
use Rattle.lgx_rung.specs.declared.ins.Ins.{Ins}
use Rattle.spec_language.specs.Checked.{CheckScope, checked}
use Rattle.spec_language.specs.Declarations.{bytes}
use Rattle.spec_language.specs.ResolutionLaws.{Sound}
use Rattle.spec_machine.specs.ExecutableLaws.{CheckedAreExecutable, CheckedKnowTasks}
use Rattle.spec_scan.specs.Executable.{AreExecutable}
use Rattle.spec_scan.specs.KnownTasks.{KnowsTasks}
use Rattle.lgx_check.specs.Answers.{AnswersCheck}
use Rattle.lgx_check.specs.declared.error.CheckError.{CheckError}

pub executable_of : (scope : CheckScope) (rungs : List Source) (answer : Result (List (Tree Ins)) CheckError) → CheckedAreExecutable → Sound scope.tags → AnswersCheck (checked scope rungs) answer → IfOk answer (λ made. AreExecutable (bytes scope.tags) made)
executable_of scope rungs (Ok made) law sound h = law scope rungs made sound h
executable_of scope rungs (Err e) law sound h = tt

pub tasks_of : (scope : CheckScope) (rungs : List Source) (answer : Result (List (Tree Ins)) CheckError) → CheckedKnowTasks → AnswersCheck (checked scope rungs) answer → IfOk answer (λ made. KnowsTasks (length scope.tasks) made)
tasks_of scope rungs (Ok made) law h = law scope rungs made h
tasks_of scope rungs (Err e) law h = tt
