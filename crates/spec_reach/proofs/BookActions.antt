-- What an action does to the books, edit by edit.
use Rattle.std.proofs.Common.{◌≡◌, ℕ, true, false, Some, None, refl}
use Rattle.std.specs.Prelude.{Result, Ok}
use Rattle.spec_tables.specs.Connections.{slot, io_word}
use Rattle.spec_tables.specs.Forces.{enable, disable, remove_all}
use Rattle.spec_tables.specs.Tasks.{held}
use Rattle.spec_machine.specs.declared.event.Action.{Action}
use Rattle.spec_machine.specs.declared.event.Action.TheVariants.{WordIn, WordOut, Accept, Test, Untest, Assemble, Cancel, ForceInstall, ForceEnable, ForceDisable, ForceRemove, ModeRun, ModeProgram, Clear}
use Rattle.spec_machine.specs.declared.reply.EditFault.{EditFault}
use Rattle.spec_machine.specs.Edits.{Edited, accept, on_accepted, test, untest, assemble, cancel, edit}
use Rattle.spec_machine.specs.State.{State}
use Rattle.spec_machine.specs.Actions.{install_on, edit_replied, act}
use Rattle.spec_reach.proofs.Books.{held_books, put_books, take_books, force_books, run_books, program_books, clear_books}

-- An action is an edit with this result, or it keeps the books.
pub data ActsOnBooks (s : State) (lane : ℕ) (a : Action) : Type 0 where
  Edits : (x : Result Edited EditFault) → edit s.plan.tags s.plan.names s.books lane a ≡ Some x → act s lane a ≡ edit_replied s x → ActsOnBooks s lane a
  Keeps : edit s.plan.tags s.plan.names s.books lane a ≡ None → (act s lane a).state.books ≡ s.books → ActsOnBooks s lane a

pub acts_on_books : (s : State) (lane : ℕ) (a : Action) → ActsOnBooks s lane a
acts_on_books s lane (WordIn conn word v) = Keeps refl (held_books (held s.table) s _ (put_books s v (slot s.plan.conns conn word false)))
acts_on_books s lane (WordOut conn word) = Keeps refl (held_books (held s.table) s _ (take_books s (slot s.plan.conns conn word true)))
acts_on_books s lane (Accept c) = Edits (accept s.plan.tags s.plan.names s.books lane c) refl refl
acts_on_books s lane (Test n) = Edits (on_accepted test s.books lane n) refl refl
acts_on_books s lane (Untest n) = Edits (on_accepted untest s.books lane n) refl refl
acts_on_books s lane (Assemble n) = Edits (on_accepted assemble s.books lane n) refl refl
acts_on_books s lane (Cancel n) = Edits (on_accepted cancel s.books lane n) refl refl
acts_on_books s lane (ForceInstall conn word mask v) = Keeps refl (force_books s (install_on s.forces (io_word s.plan.conns conn word) mask v))
acts_on_books s lane ForceEnable = Keeps refl (force_books s (enable s.forces))
acts_on_books s lane ForceDisable = Keeps refl (force_books s (Ok (disable s.forces)))
acts_on_books s lane ForceRemove = Keeps refl (force_books s (remove_all s.forces))
acts_on_books s lane ModeRun = Keeps refl (held_books (held s.table) s _ (run_books s.mode s))
acts_on_books s lane ModeProgram = Keeps refl (held_books (held s.table) s _ (program_books s.mode s))
acts_on_books s lane Clear = Keeps refl (held_books (held s.table) s _ (clear_books s.mode s))

-- an action that is no edit keeps the books
pub kept_books : (s : State) (lane : ℕ) (a : Action) → edit s.plan.tags s.plan.names s.books lane a ≡ None → (act s lane a).state.books ≡ s.books
kept_books s lane a none = go (acts_on_books s lane a)
  where
    go : ActsOnBooks s lane a → (act s lane a).state.books ≡ s.books
    go (Keeps e same) = same
    go (Edits x e acts) = absurd (cc (none, e))
