-- The lines of a journal with one more event.
use Rattle.std.specs.Prelude.{◌≡◌, ℕ, ◌+◌, List, [], ◌∷◌, ◌++◌, if◌then◌else◌}
use Rattle.spec_machine.specs.declared.event.Event.{Event}
use Rattle.spec_machine.specs.Project.{Project, Watch}
use Rattle.spec_machine.specs.State.{State}
use Rattle.spec_machine.specs.Machine.{step, run}
use Rattle.spec_machine.specs.Report.{Stamped, is_step, steps_of, stamp, event_lines, report_lines}

-- an event's lines after a state that n processor steps led to
abbrev pub lines_of_event : List Watch → State → ℕ → Event → List Stamped
lines_of_event watches s n e =
    let x = step s e in
    stamp x.state.tick (if is_step e then n + 1 else n) (event_lines watches s x.state x.answer)

-- they are those of the journal, and then that event's
abbrev pub OneMoreEvent : Type 0
OneMoreEvent = (project : Project) (journal : List Event) (e : Event) → report_lines project (journal ++ e ∷ []) ≡ report_lines project journal ++ lines_of_event project.watches (run project journal) (steps_of journal) e
