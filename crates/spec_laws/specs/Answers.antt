-- The refusal law both ways: an action is held or refused exactly where a cause applies, and then with the first one.
use Rattle.std.specs.Prelude.{◌≡◌, List, if◌then◌else◌, Option, Some, None, ⊤}
use Rattle.std.specs.List.{AllByRecursion}
use Rattle.spec_machine.specs.declared.event.Event.{Event}
use Rattle.spec_machine.specs.declared.reply.Reply.{Reply}
use Rattle.spec_machine.specs.Machine.{TraceEntry, OfAction}
use Rattle.spec_machine.specs.Project.{Project}
use Rattle.spec_schedule.specs.Refusals.{first_cause}
use Rattle.spec_schedule.specs.Stages.{Stage, stages, is_refusal}

-- what a reply refuses with, unless the action was done
abbrev pub refusal_in : Reply → Option Reply
refusal_in r = if is_refusal r then Some r else None

-- the causes are those of the state before the action
abbrev pub IsAnsweredRightly : Stage → Type 0
IsAnsweredRightly x = go x.entry
  where
    go : TraceEntry → Type 0
    go (OfAction lane action o) = first_cause x.before lane action ≡ refusal_in o.reply
    go _ = ⊤

abbrev pub AnswersAreRight : Project → Type 0
AnswersAreRight p = (journal : List Event) → AllByRecursion IsAnsweredRightly (stages p journal)
