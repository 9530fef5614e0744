-- The law of the change to Run.
use Rattle.std.proofs.Common.{◌≡◌, ℕ, Bool, true, false, List, [], ◌∷◌, length, map, refl, ap}
use Rattle.std.specs.Prelude.{replicate}
use Rattle.spec_tables.specs.Tasks.{held}
use Rattle.spec_scan.specs.Prescan.{prescan}
use Rattle.spec_machine.specs.declared.event.Action.{Action}
use Rattle.spec_machine.specs.declared.event.Action.TheVariants.{WordIn, WordOut, Accept, Test, Untest, Assemble, Cancel, ForceInstall, ForceEnable, ForceDisable, ForceRemove, ModeRun, ModeProgram, Clear}
use Rattle.spec_machine.specs.declared.event.Event.{Event}
use Rattle.spec_machine.specs.declared.event.Event.TheVariants as events
use Rattle.spec_machine.specs.declared.reply.Mode.{Mode}
use Rattle.spec_machine.specs.declared.reply.Mode.TheVariants.{Program, Run, Faulted}
use Rattle.spec_machine.specs.Actions.{held_or, to_run, mode_run_from, prescan_all}
use Rattle.spec_machine.specs.Edits.{Book, selected}
use Rattle.spec_machine.specs.Machine.{OfAction}
use Rattle.spec_machine.specs.Project.{Project}
use Rattle.spec_machine.specs.State.{State, no_progress}
use Rattle.spec_reach.proofs.Reached.{IsReached}
use Rattle.spec_laws.specs.RunStarts.{IsPrescanned, StartsRun, KeepsRunStart, RunsStartAnew}
use Rattle.spec_laws.proofs.AlongStages.{stage, each_stage}

prescanned : (books : List Book) (image : List ℕ) → IsPrescanned books image (prescan_all books image)
prescanned [] image = refl
prescanned (b ∷ books) image = prescanned books (prescan (selected b) image)

replaced : {A B : Type 0} (y : B) (xs : List A) → map (λ x. y) xs ≡ replicate (length xs) y
replaced y [] = refl
replaced y (x ∷ xs) = ap (λ ys. y ∷ ys) (replaced y xs)

starts_run : (s : State) → StartsRun s (to_run s)
starts_run s = record { image = prescanned s.books s.image; progress = replaced no_progress s.progress; firsts = replaced true s.firsts; books = refl; forces = refl }

module _ (s : State) (lane : ℕ) where
  abbrev Here : Bool → Mode → Type 0
  Here b m =
      let x = held_or b s (mode_run_from m s) in
      KeepsRunStart (record { before = s; entry = OfAction lane ModeRun x.answer; after = x.state })

  by_run : (b : Bool) (m : Mode) → Here b m
  by_run true m = tt
  by_run false Program = starts_run s
  by_run false Run = tt
  by_run false Faulted = tt

  by_act : (a : Action) → KeepsRunStart (stage s (events.Act lane a))
  by_act (WordIn name word v) = tt
  by_act (WordOut name word) = tt
  by_act (Accept c) = tt
  by_act (Test n) = tt
  by_act (Untest n) = tt
  by_act (Assemble n) = tt
  by_act (Cancel n) = tt
  by_act (ForceInstall name word mask v) = tt
  by_act ForceEnable = tt
  by_act ForceDisable = tt
  by_act ForceRemove = tt
  by_act ModeRun = by_run (held s.table) s.mode
  by_act ModeProgram = tt
  by_act Clear = tt

pub runs_start_anew : (p : Project) → RunsStartAnew p
runs_start_anew p journal = each_stage p KeepsRunStart here journal
  where
    here : (s : State) (e : Event) → IsReached p s → KeepsRunStart (stage s e)
    here s events.Cpu h = tt
    here s events.Tick h = tt
    here s (events.Act lane a) h = by_act s lane a
