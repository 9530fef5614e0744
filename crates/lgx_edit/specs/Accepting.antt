-- What an accept answers and leaves.
use Rattle.std.specs.Prelude.{◌^◌, ◌-◌, ◌≡◌, ℕ, Bool, nat_lt, List, Result, Ok, Err}
use Rattle.std.specs.List.{list_all}
use Rattle.spec_base.specs.FirstCause.{◌>>=◌}
use Rattle.spec_language.specs.Checked.{CheckScope}
use Rattle.spec_machine.specs.Commands.{AcceptCommand}
use Rattle.spec_machine.specs.declared.reply.EditFault.{EditFault}
use Rattle.spec_machine.specs.declared.reply.Reply.TheVariants.{Version}
use Rattle.spec_machine.specs.Edits.{Book, Edited, routine_named, accept_in}
use Rattle.lgx_edit.specs.declared.error.EditError.{EditError}
use Rattle.lgx_edit.specs.declared.error.EditError.TheVariants.{Edit, Memory}
use Rattle.lgx_edit.specs.EditsView.{EditsView, books, holds}

-- each program has a number left for its next accept
abbrev pub has_numbers_left : List Book → Bool
has_numbers_left all = list_all (λ b. nat_lt b.newest (2 ^ 32 - 1)) all

-- an accept on the book of its program
abbrev pub accept_at : CheckScope → ℕ → AcceptCommand → Book → Result Book EditFault
accept_at scope lane command b = do
  r ← routine_named b command.routine
  accept_in scope lane r command.edits b

-- It answers the number of the accept that is meant, or the cause. If it is refused or out of memory, all is as before, the
-- slots too; the held program is the same in any case.
abbrev pub Accepts : Result Book EditFault → EditsView → EditsView → Result ℕ EditError → Type 0
Accepts meant old new (Ok n) = (meant ≡ Ok new.book) × (n ≡ new.book.newest) × (new.versions.roles.held ≡ old.versions.roles.held)
Accepts meant old new (Err (Edit fault)) = (meant ≡ Err fault) × (new ≡ old)
Accepts meant old new (Err Memory) = new ≡ old

-- the same on the books of all programs
abbrev pub LeavesAccepted : Result Edited EditFault → List EditsView → List EditsView → Result ℕ EditError → Type 0
LeavesAccepted meant old new (Ok n) = (meant ≡ Ok (record { books = books new; reply = Version n })) × (holds new ≡ holds old)
LeavesAccepted meant old new (Err (Edit fault)) = (meant ≡ Err fault) × (new ≡ old)
LeavesAccepted meant old new (Err Memory) = new ≡ old
