-- What the fields are seen as.
use Rattle.std.specs.Prelude.{ℕ, List, map, Option}
use Rattle.spec_machine.specs.Edits.{Book}
use Rattle.lgx_versions.specs.Roles.{Roles}
use Rattle.lgx_edit.specs.declared.changes.KeptEdit.{KeptEdit}
use Rattle.lgx_edit.specs.declared.changes.EditedRoutine.{EditedRoutine}
use Rattle.lgx_edit.specs.declared.edits.ProgramEdits.TheInside.{Inside}
use Rattle.lgx_edit.specs.Texts.{base_of, merged_of, accepted_of}
use Rattle.lgx_edit.specs.EditsView.{EditsView, AreTied}

-- numbers and testing are the versions'
abbrev pub book_with : List ℕ → ℕ → List EditedRoutine → List KeptEdit → Option ℕ → Roles → Book
book_with name main routines accepted owner r = record {
  name = name;
  main = main;
  base = map base_of routines;
  merged = map merged_of routines;
  accepted = map accepted_of accepted;
  number = r.base.number;
  newest = r.newest;
  owner = owner;
  testing = r.testing;
}

abbrev pub view_of : Inside → EditsView
view_of e = record {
  book = book_with e.name e.main e.routines.items e.accepted.items e.owner e.versions.roles;
  versions = e.versions;
}

abbrev pub IsTied : Inside → Type 0
IsTied e = AreTied (view_of e).book e.versions.roles
