-- The faults that an event records are reported by its answer.
use Rattle.std.specs.Prelude.{◌≡◌, List, [], ◌∷◌, ◌++◌, Option, Some, None}
use Rattle.spec_tables.specs.declared.fault.Fault.{Fault}
use Rattle.spec_machine.specs.declared.event.Event.{Event}
use Rattle.spec_machine.specs.State.{State}
use Rattle.spec_machine.specs.TickLaws.{report_faults}
use Rattle.spec_machine.specs.Machine.{TraceEntry, OfStep, OfTick, OfAction, step}

-- the fault that an answer carries, if there is one
abbrev pub faults_in : Option Fault → List Fault
faults_in None = []
faults_in (Some f) = f ∷ []

-- those of an answer; s is the state after the event
abbrev pub told_faults : State → TraceEntry → List Fault
told_faults s (OfStep moment) = faults_in moment.fault
told_faults s (OfTick report) = report_faults s report
told_faults s (OfAction lane action outcome) = faults_in outcome.fault

-- an event puts the faults of its answer after those before, and no other
abbrev pub AnswersTellFaults : Type 0
AnswersTellFaults =
    (s : State) (e : Event) → (step s e).state.faults ≡ s.faults ++ told_faults (step s e).state (step s e).answer
