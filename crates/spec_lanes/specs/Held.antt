-- Which actions an open CPS holds.
use Rattle.std.specs.Prelude.{◌≡◌, ℕ, Bool, true, false, List, ◌&&◌}
use Rattle.spec_machine.specs.declared.event.Action.{Action}
use Rattle.spec_machine.specs.declared.event.Action.TheVariants.{WordIn, WordOut, ModeRun, ModeProgram, Clear}
use Rattle.spec_machine.specs.declared.event.Event.{Event}
use Rattle.spec_machine.specs.Project.{Project}
use Rattle.spec_schedule.specs.Partial.{is_held_after}
use Rattle.spec_lanes.specs.Turns.{would_be_held}

-- I/O words and the commands on the mode
abbrev pub is_holdable : Action → Bool
is_holdable (WordIn conn word value) = true
is_holdable (WordOut conn word) = true
is_holdable ModeRun = true
is_holdable ModeProgram = true
is_holdable Clear = true
is_holdable _ = false

-- the machine answers Held to these alone, and to them exactly while a CPS is open
abbrev pub HoldsWordsAndModes : Type 0
HoldsWordsAndModes =
    (project : Project) (journal : List Event) (lane : ℕ) (action : Action) → would_be_held project journal lane action ≡ (is_holdable action && is_held_after project journal)
