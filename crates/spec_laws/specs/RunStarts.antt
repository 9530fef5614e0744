-- The law of the change to Run: it prescans every program, and each begins anew.
use Rattle.std.specs.Prelude.{◌≡◌, ℕ, List, [], ◌∷◌, length, true, replicate, ⊤}
use Rattle.std.specs.List.{AllByRecursion}
use Rattle.spec_scan.specs.Prescan.{prescan}
use Rattle.spec_machine.specs.declared.event.Action.{Action}
use Rattle.spec_machine.specs.declared.event.Action.TheVariants.{ModeRun}
use Rattle.spec_machine.specs.declared.event.Event.{Event}
use Rattle.spec_machine.specs.declared.reply.Reply.{Reply}
use Rattle.spec_machine.specs.declared.reply.Reply.TheVariants.{Done}
use Rattle.spec_machine.specs.Edits.{Book, selected}
use Rattle.spec_machine.specs.Machine.{TraceEntry, OfAction}
use Rattle.spec_machine.specs.Project.{Project}
use Rattle.spec_machine.specs.State.{State, no_progress}
use Rattle.spec_schedule.specs.Stages.{Stage, stages}

-- the image goes through the prescan of each program in turn, by the rungs that are selected
abbrev pub IsPrescanned : List Book → List ℕ → List ℕ → Type 0
IsPrescanned [] image result = result ≡ image
IsPrescanned (b ∷ books) image result = IsPrescanned books (prescan (selected b) image) result

pub record StartsRun (before after : State) : Type 0 where
  pub image : IsPrescanned before.books before.image after.image
  -- no flag is set and no program begun
  pub progress : after.progress ≡ replicate (length before.progress) no_progress
  -- the next scan of each program is its first
  pub firsts : after.firsts ≡ replicate (length before.firsts) true
  -- edits and forces stay
  pub books : after.books ≡ before.books
  pub forces : after.forces ≡ before.forces

abbrev pub KeepsRunStart : Stage → Type 0
KeepsRunStart x = go x.entry
  where
    of_action : Action → Reply → Type 0
    of_action ModeRun Done = StartsRun x.before x.after
    of_action _ _ = ⊤

    go : TraceEntry → Type 0
    go (OfAction lane action o) = of_action action o.reply
    go _ = ⊤

abbrev pub RunsStartAnew : Project → Type 0
RunsStartAnew p = (journal : List Event) → AllByRecursion KeepsRunStart (stages p journal)
