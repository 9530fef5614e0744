-- The first refusal of the passes so far.
use Rattle.std.specs.Prelude.{Option}
use Rattle.spec_project.specs.declared.described.Described.{Described}
use Rattle.spec_project.specs.declared.fault.ProjectFault.{ProjectFault}
use Rattle.spec_project.specs.Faults.{or_else}
use Rattle.spec_project.specs.Names.{names_fault}
use Rattle.spec_project.specs.Tags.{aliases_fault, tags_fault, types_fault}
use Rattle.spec_project.specs.Schedules.{tasks_fault}

abbrev pub tags_refusal : Described → Option ProjectFault
tags_refusal p = or_else (names_fault p) (or_else (types_fault p) (or_else (tags_fault p) (aliases_fault p)))

abbrev pub tasks_refusal : Described → Option ProjectFault
tasks_refusal p = or_else (tags_refusal p) (tasks_fault p)
