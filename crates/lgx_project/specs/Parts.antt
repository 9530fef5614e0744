-- What is read of a file before its project is made.
use Rattle.std.specs.Prelude.{◌≡◌, true, map, filter_map}
use Rattle.lgx_edit.specs.Plants.{watch_of}
use Rattle.lgx_edit.specs.Texts.{program_of}
use Rattle.spec_project.specs.declared.described.Described.{Described}
use Rattle.spec_project.specs.Places as places
use Rattle.spec_project.specs.Routines.{program_texts}
use Rattle.spec_project.specs.Tags.{declarations}
use Rattle.lgx_project.specs.TaskParts.{AreTasksOf}
use Rattle.lgx_project.specs.declared.project.LookedUp.{LookedUp}
use Rattle.lgx_project.specs.declared.project.FileParts.{FileParts}

-- the sealed tags, and what connections, initial values and watched texts name by them
pub record IsLookedUp (p : Described) (l : LookedUp) : Type 0 where
  pub tags : l.tags ≡ record { declarations = declarations p; sealed = true }
  pub conns : l.conns ≡ map (places.connection_of p) p.connections
  pub image : l.places.image.bytes ≡ places.image_of p
  pub watches : map watch_of l.places.watches ≡ filter_map (places.watch_of p) p.watch

-- these, the tasks, and the programs with their rungs
pub record ArePartsOf (p : Described) (parts : FileParts) : Type 0 where
  pub found : IsLookedUp p parts.found
  pub tasks : AreTasksOf p parts.tasks
  pub texts : map program_of parts.texts ≡ program_texts p
