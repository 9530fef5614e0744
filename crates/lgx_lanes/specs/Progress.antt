-- How far the lanes of a script are.
use Rattle.std.specs.Prelude.{◌≡◌, ℕ, ◌<◌, List, sum, true}
use Rattle.spec_machine.specs.declared.event.Event.{Event}
use Rattle.spec_machine.specs.Events.{steps_of}
use Rattle.spec_machine.specs.Project.{Project}
use Rattle.spec_text.specs.Scripts.{Script}
use Rattle.spec_lanes.specs.Turns.{is_spent}
use Rattle.spec_lanes.specs.Served.{IsServed}

-- for each lane how many of its actions were made, and all events so far
pub record Progress : Type 0 where
  pub counts : List ℕ
  pub events : List Event

-- turns of the lanes came to this
abbrev pub IsUnderWay : Project → Script → Progress → Type 0
IsUnderWay project script p = IsServed project script p.counts p.events

-- What was counted of it: the actions of all lanes, the processor steps, and ends only where the steps are spent.
pub record AreBooked (project : Project) (script : Script) (p : Progress) (actions steps ends : ℕ) : Type 0 where
  pub acted : actions ≡ sum p.counts
  pub stepped : steps ≡ steps_of p.events
  pub spent : 0 < ends → is_spent project script p.events ≡ true
