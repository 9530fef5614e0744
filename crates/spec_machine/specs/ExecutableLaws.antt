-- Checked rungs are executable over the image of their tags.
use Rattle.std.specs.Prelude.{◌≡◌, List, length, Ok}
use Rattle.lgx_rung.specs.Tree.{Source}
use Rattle.spec_language.specs.Declarations.{bytes}
use Rattle.spec_language.specs.ResolutionLaws.{Sound}
use Rattle.spec_language.specs.Checked.{CheckScope, checked}
use Rattle.spec_scan.specs.Position.{Rungs}
use Rattle.spec_scan.specs.Executable.{AreExecutable}
use Rattle.spec_scan.specs.KnownTasks.{KnowsTasks}

abbrev pub CheckedAreExecutable : Type 0
CheckedAreExecutable = (scope : CheckScope) (rungs : List Source) (made : Rungs) → Sound scope.tags → checked scope rungs ≡ Ok made → AreExecutable (bytes scope.tags) made

-- what checked rungs name as tasks are some of the tasks that they were checked against
abbrev pub CheckedKnowTasks : Type 0
CheckedKnowTasks = (scope : CheckScope) (rungs : List Source) (made : Rungs) → checked scope rungs ≡ Ok made → KnowsTasks (length scope.tasks) made
