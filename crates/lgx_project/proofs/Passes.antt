-- The passes in order, and those so far first.
use Rattle.std.proofs.Common.{◌≡◌, Option, Some, None, refl}
use Rattle.spec_project.specs.declared.described.Described.{Described}
use Rattle.spec_project.specs.declared.fault.ProjectFault.{ProjectFault}
use Rattle.spec_project.specs.Faults.{or_else}
use Rattle.spec_project.specs.Names.{names_fault}
use Rattle.spec_project.specs.Tags.{aliases_fault, tags_fault, types_fault}
use Rattle.spec_project.specs.Schedules.{tasks_fault}
use Rattle.spec_project.specs.Places.{connections_fault, places_fault}
use Rattle.spec_project.specs.Projects.{refusal}
use Rattle.spec_project.specs.Routines.{routines_fault}
use Rattle.lgx_project.specs.Passes.{places_refusal}

in_passes : (a b c d e f g h : Option ProjectFault)
    → or_else a (or_else b (or_else c (or_else d (or_else e (or_else f (or_else g h)))))) ≡ or_else (or_else (or_else (or_else a (or_else b (or_else c d))) e) (or_else f g)) h
in_passes (Some x) b c d e f g h = refl
in_passes None (Some x) c d e f g h = refl
in_passes None None (Some x) d e f g h = refl
in_passes None None None (Some x) e f g h = refl
in_passes None None None None (Some x) f g h = refl
in_passes None None None None None (Some x) g h = refl
in_passes None None None None None None g h = refl

-- of rungs only if nothing else is refused
pub rungs_last : (p : Described) → refusal p ≡ or_else (places_refusal p) (routines_fault p)
unfolding refusal
rungs_last p = in_passes (names_fault p) (types_fault p) (tags_fault p) (aliases_fault p) (tasks_fault p) (connections_fault p) (places_fault p) (routines_fault p)
