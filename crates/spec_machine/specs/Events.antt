-- Kinds of events.
use Rattle.std.specs.Prelude.{ℕ, List, Bool, true, false, count_by}
use Rattle.spec_machine.specs.declared.event.Event.{Event}
use Rattle.spec_machine.specs.declared.event.Event.TheVariants.{Cpu, Tick, Act}
use Rattle.spec_machine.specs.declared.event.Action.{Action}
use Rattle.spec_machine.specs.declared.event.Action.TheVariants.{Accept}

abbrev pub is_step : Event → Bool
is_step Cpu = true
is_step _ = false

abbrev pub is_tick : Event → Bool
is_tick Tick = true
is_tick _ = false

abbrev pub is_action : Event → Bool
is_action (Act lane a) = true
is_action _ = false

-- the number of processor steps
abbrev pub steps_of : List Event → ℕ
steps_of journal = count_by is_step journal

-- the one action that brings texts
abbrev pub is_accept : Action → Bool
is_accept (Accept command) = true
is_accept _ = false
