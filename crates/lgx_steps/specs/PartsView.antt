-- The parts of a controller as contracts see them: lists in place of vectors.
use Rattle.std.specs.Prelude.{◌≡◌, ℕ, Bool, List, [], None}
use Rattle.spec_tables.specs.declared.fault.Fault.{Fault}
use Rattle.spec_tables.specs.Forces.{Forces}
use Rattle.spec_machine.specs.declared.reply.Mode.{Mode}
use Rattle.spec_machine.specs.State.{Plan, no_flags}
use Rattle.lgx_image.specs.Grains.{ImageView}
use Rattle.lgx_sched.specs.TableView.{TableView}
use Rattle.lgx_edit.specs.EditsView.{EditsView}
use Rattle.lgx_steps.specs.declared.parts.Progress.{Progress}
use Rattle.lgx_steps.specs.declared.parts.ControllerParts.{ControllerParts}

-- The plan, and whether its tags are sealed; mode and tick; the tasks, each with its progress; for each program whether
-- its next scan is its first; the image with its marks; for each program its book with the versions that run it; the forces; and
-- the last faults.
pub record PartsView : Type 0 where
  pub plan : Plan
  pub sealed : Bool
  pub mode : Mode
  pub tick : ℕ
  pub table : TableView
  pub progress : List Progress
  pub firsts : List Bool
  pub image : ImageView
  pub book : List EditsView
  pub forces : Forces
  pub faults : List Fault

abbrev pub plan_of : ControllerParts → Plan
plan_of v = record { tags = v.tags.declarations; names = v.names; schedule = v.schedule; conns = v.conns }

abbrev pub view_of : ControllerParts → PartsView
view_of v = record {
  plan = plan_of v;
  sealed = v.tags.sealed;
  mode = v.mode;
  tick = v.tick;
  table = v.table;
  progress = v.progress.items;
  firsts = v.firsts.items;
  image = v.image;
  book = v.book;
  forces = v.forces;
  faults = v.faults;
}

-- a task without progress
abbrev pub idle : Progress
idle = record { ended = 0; scan = None; position = record { frames = []; copy = None }; flags = no_flags }

-- a task's progress with no flag set
abbrev pub without_flags : Progress → Progress
without_flags v = record v { flags = no_flags }

-- a task has begun nothing, and no flag of it is set
pub record IsIdle (v : Progress) : Type 0 where
  pub ended : v.ended ≡ 0
  pub scan : v.scan ≡ None
  pub flags : v.flags ≡ no_flags
