-- A plant as the machine's project, and what always holds of it.
use Rattle.std.specs.Prelude.{◌≡◌, true, map}
use Rattle.spec_machine.specs.Project as machine
use Rattle.spec_machine.specs.ValidProject.{IsValidProject}
use Rattle.lgx_edit.specs.declared.plant.Watch.{Watch}
use Rattle.lgx_edit.specs.declared.plant.PlantParts.TheInside.{Inside}
use Rattle.lgx_edit.specs.Texts.{program_of}

abbrev pub watch_of : Watch → machine.Watch
watch_of w = record { text = w.text; place = w.place }

-- the image's bytes are the values at the start; what is marked in it doesn't matter
abbrev pub project_of : Inside → machine.Project
project_of p = record {
  tags = p.tags.declarations;
  programs = map program_of p.texts;
  tasks = p.tasks;
  names = p.names;
  schedule = p.schedule;
  conns = p.conns;
  image = p.image.bytes;
  watches = map watch_of p.watches;
}

-- the tags are sealed, and the project is valid
pub record IsPlant (p : Inside) : Type 0 where
  pub sealed : p.tags.sealed ≡ true
  pub valid : IsValidProject (project_of p)
