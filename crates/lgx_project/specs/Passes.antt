-- The first refusal of the passes so far.
use Rattle.std.specs.Prelude.{Option}
use Rattle.spec_project.specs.declared.described.Described.{Described}
use Rattle.spec_project.specs.declared.fault.ProjectFault.{ProjectFault}
use Rattle.spec_project.specs.Faults.{or_else}
use Rattle.spec_project.specs.Places.{connections_fault, places_fault}
use Rattle.lgx_declare.specs.Passes.{tasks_refusal}

abbrev pub places_refusal : Described → Option ProjectFault
places_refusal p = or_else (tasks_refusal p) (or_else (connections_fault p) (places_fault p))
