-- The project that is made of what is read.
use Rattle.std.proofs.Common.{◌≡◌, None, map, refl, ap, sym, subst}
use Rattle.lgx_tags.specs.Tables.{Table}
use Rattle.spec_machine.specs.Project as machine
use Rattle.spec_machine.specs.ValidProject.{IsValidProject}
use Rattle.spec_project.specs.declared.described.Described.{Described}
use Rattle.spec_project.specs.Limits.{IsWithinLimits}
use Rattle.spec_project.specs.Projects.{project_made, refusal}
use Rattle.spec_valid.proofs.Accepted.{accepted_is_valid}
use Rattle.lgx_edit.specs.Plants.{watch_of}
use Rattle.lgx_edit.specs.Texts.{program_of}
use Rattle.lgx_project.specs.Parts.{ArePartsOf}
use Rattle.lgx_project.specs.declared.project.FileParts.{FileParts}

-- the parts as the machine's project
abbrev pub put_together : FileParts → machine.Project
put_together parts = record {
  tags = parts.found.tags.declarations;
  programs = map program_of parts.texts;
  tasks = parts.tasks.defs;
  names = parts.tasks.names;
  schedule = parts.tasks.schedule;
  conns = parts.found.conns;
  image = parts.found.places.image.bytes;
  watches = map watch_of parts.found.places.watches;
}

pub made_of_parts : (p : Described) (parts : FileParts) → ArePartsOf p parts → put_together parts ≡ project_made p
unfolding project_made
made_of_parts p parts are =
    rw (ap (λ (t : Table). t.declarations) are.found.tags, are.texts, are.tasks.defs, are.tasks.names, are.tasks.schedule, are.found.conns, are.found.image, are.found.watches) refl

pub parts_valid : (p : Described) (parts : FileParts) → IsWithinLimits p → refusal p ≡ None → ArePartsOf p parts → IsValidProject (put_together parts)
parts_valid p parts within accepted are = subst IsValidProject (sym (made_of_parts p parts are)) (accepted_is_valid p within accepted)
