-- A run's tick is the number of its ticks.
use Rattle.std.proofs.Common.{◌≡◌, ◌+◌, cond, List, [], ◌∷◌, arith}
use Rattle.spec_machine.specs.declared.event.Event.{Event}
use Rattle.spec_machine.specs.declared.event.Event.TheVariants.{Cpu, Tick, Act}
use Rattle.spec_machine.specs.Events.{is_tick}
use Rattle.spec_machine.specs.Machine.{step, run_from, run}
use Rattle.spec_machine.specs.Project.{Project}
use Rattle.spec_machine.specs.State.{State, start}
use Rattle.spec_reach.proofs.Grows.{event_moves}
use Rattle.spec_lanes.specs.Turns.{ticks_of}
use Rattle.spec_lanes.proofs.Appended.{ticks_first}

clock : (s : State) (e : Event) → (step s e).state.tick ≡ s.tick + cond (is_tick e) 1 0
clock s Cpu = let a = (event_moves s Cpu).tick in omega arith
clock s Tick = let a = (event_moves s Tick).tick in omega arith
clock s (Act lane a) = let b = (event_moves s (Act lane a)).tick in omega arith

ticks_from : (s : State) (es : List Event) → (run_from s es).tick ≡ s.tick + ticks_of es
ticks_from s [] = omega arith
ticks_from s (e ∷ es) =
    let rest = ticks_from (step s e).state es in
    let here = clock s e in
    let all = ticks_first e es in
    omega arith

pub run_ticks : (p : Project) (journal : List Event) → (run p journal).tick ≡ ticks_of journal
run_ticks p journal = let a = ticks_from (start p) journal in omega arith
