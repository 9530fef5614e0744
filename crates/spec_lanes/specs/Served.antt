-- Journals that turns of the lanes make: partial ones, with what the next turns rest on.
use Rattle.std.specs.Prelude.{◌≡◌, ℕ, ◌+◌, ◌-◌, ◌/◌, ◌≤◌, List, length, sum, true, Some, IsTrue}
use Rattle.spec_base.specs.declared.limits.TheConstants.{MAX_IMAGE_BYTES}
use Rattle.spec_scan.specs.declared.bound.Copying.{Copying}
use Rattle.spec_tables.specs.Tasks.{state_of, has_open_cps}
use Rattle.spec_machine.specs.declared.event.Event.{Event}
use Rattle.spec_machine.specs.Events.{steps_of}
use Rattle.spec_machine.specs.Project.{Project}
use Rattle.spec_machine.specs.State.{State, Scan, progress_of}
use Rattle.spec_machine.specs.Machine.{run}
use Rattle.spec_machine.specs.ValidProject.{IsValidProject}
use Rattle.spec_text.specs.Scripts.{Script, is_script}
use Rattle.spec_schedule.specs.Partial.{is_held_after, through_step, IsPartial}
use Rattle.spec_lanes.specs.Turns.{ticks_of, most_steps}

-- task t has this CPS open
pub record HasOpenCps (s : State) (t : ℕ) (c : Copying) : Type 0 where
  pub flag : has_open_cps (state_of s.table t) ≡ true
  pub scan : Scan
  pub stands : (progress_of s t).scan ≡ Some scan
  pub copy : scan.position.copy ≡ Some c

-- The journal is partial for the counts. Its actions but the first are as many as the counts together. The ticks are the processor
-- steps divided by the pace, cut. A CPS that is open was so after the last processor step and its tick, and each step beyond the
-- script's took an element from it. So there are few of these.
pub record IsServed (project : Project) (script : Script) (counts : List ℕ) (journal : List Event) : Type 0 where
  pub valid : IsValidProject project
  pub proper : IsTrue (is_script script)
  pub partial : IsPartial project script counts journal
  pub events : length journal ≡ 1 + (sum counts + (steps_of journal + ticks_of journal))
  pub ticks : ticks_of journal ≡ steps_of journal / script.pace
  pub since : IsTrue (is_held_after project journal) → IsTrue (is_held_after project (through_step (steps_of journal) journal))
  pub taken : script.steps ≤ steps_of journal → (t : ℕ) (c : Copying) → HasOpenCps (run project journal) t c → (steps_of journal - script.steps) + c.left ≤ MAX_IMAGE_BYTES
  pub few : steps_of journal ≤ most_steps script
