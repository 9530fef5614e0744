-- What a controller represents doesn't depend on its marks.
use Rattle.std.proofs.Common.{◌≡◌, ℕ, ◌∙◌}
use Rattle.spec_machine.specs.Machine.{run}
use Rattle.spec_machine.specs.State.{State}
use Rattle.lgx_image.specs.Grains.{ImageView}
use Rattle.lgx_steps.specs.PartsView.{PartsView}
use Rattle.lgx_steps.specs.Represents.{RepresentsState}
use Rattle.lgx_core.specs.ControllerView.{ControllerView}
use Rattle.lgx_core.specs.Represents.{RepresentsController, IsController}

with-image : (n : ℕ) (v : PartsView) (s : State) (i : ImageView) → i.bytes ≡ v.image.bytes → RepresentsState n v s → RepresentsState n (record v { image = i }) s
with-image n v s i e h = record {
  plan = h.plan;
  sealed = h.sealed;
  mode = h.mode;
  tick = h.tick;
  table = h.table;
  progresses = h.progresses;
  tasks = h.tasks;
  firsts = h.firsts;
  image = e ∙ h.image;
  books = h.books;
  forces = h.forces;
  faults = h.faults;
  sane = h.sane;
}

abbrev pub remarked : ControllerView → ImageView → ControllerView
remarked v i = record v { parts = record v.parts { image = i } }

module _ (v : ControllerView) (i : ImageView) (e : i.bytes ≡ v.parts.image.bytes) where
  pub remarked-represents : (s : State) → RepresentsController v s → RepresentsController (remarked v i) s
  remarked-represents s h = record { room = h.room; parts = with-image v.spent v.parts s i e h.parts }

  pub remarked-stands : IsController v → IsController (remarked v i)
  remarked-stands c = record {
    project = c.project;
    events = c.events;
    stands = record { valid = c.stands.valid; counted = c.stands.counted; represents = remarked-represents (run c.project c.events) c.stands.represents };
  }
