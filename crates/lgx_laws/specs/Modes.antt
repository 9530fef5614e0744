-- The law of modes: `run`, `program` and `clear` are done exactly in the mode that each leads from, unless a CPS is in progress.
use Rattle.std.specs.Prelude.{List, [], ◌∷◌, Bool, true, false, not, ◌&&◌, Some}
use Rattle.std.specs.List.{list_any}
use Rattle.spec_machine.specs.declared.reply.Mode.{Mode}
use Rattle.spec_machine.specs.declared.reply.Mode.TheVariants as mode
use Rattle.spec_schedule.specs.declared.trace.StepFault.TheVariants.{Major}
use Rattle.spec_schedule.specs.declared.trace.Verb.{Verb}
use Rattle.spec_schedule.specs.declared.trace.Verb.TheVariants.{Run, Program, Clear}
use Rattle.spec_schedule.specs.declared.trace.TraceAnswer.{TraceAnswer}
use Rattle.spec_schedule.specs.declared.trace.TraceAnswer.TheVariants.{Done, Number, No}
use Rattle.spec_schedule.specs.declared.trace.TraceEvent.{TraceEvent}
use Rattle.spec_schedule.specs.declared.trace.TraceEvent.TheVariants.{Step, Tick, Act}
use Rattle.spec_schedule.specs.Counting.{Counted, CountedEvent}

-- The mode after an event, by the one before it: a command that is done leads to its mode, and `clear` to Program; a major fault
-- and a watchdog lead to Faulted.
abbrev pub mode_shown : TraceEvent → Mode → Mode
mode_shown (Act _ Run _ Done _) before = mode.Run
mode_shown (Act _ Program _ Done _) before = mode.Program
mode_shown (Act _ Clear _ Done _) before = mode.Program
mode_shown (Step _ _ _ Major) before = mode.Faulted
mode_shown (Tick _ _ (Some t)) before = mode.Faulted
mode_shown _ before = before

-- the mode after these events; a controller starts in Program
abbrev pub mode_after : List CountedEvent → Mode
mode_after [] = mode.Program
mode_after (x ∷ past) = mode_shown x.event (mode_after past)

-- some task has a CPS in progress
abbrev pub holds : List Counted → Bool
holds counts = list_any (λ c. c.cps_open) counts

-- the mode that a command leads from
abbrev pub leads_from : Verb → Mode → Bool
leads_from Run mode.Program = true
leads_from Program mode.Run = true
leads_from Clear mode.Faulted = true
leads_from _ _ = false

-- done, or refused, as is asked
abbrev pub is_answer : Bool → TraceAnswer → Bool
is_answer takes Done = takes
is_answer takes No = not takes
is_answer takes (Number n) = false

abbrev pub answers_mode : Verb → List CountedEvent → List Counted → TraceAnswer → Bool
answers_mode verb past counts answer = is_answer (leads_from verb (mode_after past) && not (holds counts)) answer

-- nothing is asked of other actions
abbrev pub keeps_modes : List CountedEvent → CountedEvent → Bool
keeps_modes past x = check x.event
  where
    check : TraceEvent → Bool
    check (Act _ Run _ answer _) = answers_mode Run past x.tasks answer
    check (Act _ Program _ answer _) = answers_mode Program past x.tasks answer
    check (Act _ Clear _ answer _) = answers_mode Clear past x.tasks answer
    check _ = true
