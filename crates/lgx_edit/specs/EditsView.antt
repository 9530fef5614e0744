-- The edits of one program as callers see them, and what a command makes of them.
use Rattle.std.specs.Prelude.{◌^◌, ◌≡◌, ℕ, ◌<◌, List, [], length, map, Option, Some, None, Result, Ok, Err, is_some, IsTrue, IsSome, slice_set, slice_index_or}
use Rattle.spec_base.specs.FirstCause.{◌>>=◌, unless}
use Rattle.spec_scan.specs.Position.{ProgramRungs}
use Rattle.spec_machine.specs.declared.reply.EditFault.{EditFault}
use Rattle.spec_machine.specs.declared.reply.EditFault.TheVariants.{E3, E10}
use Rattle.spec_machine.specs.Project.{RoutineText}
use Rattle.spec_machine.specs.Edits.{Book, Edited, merged, routine_at, changes_in, book_at, none_or, other_owner, has_accepted, selected_number, selected as selected_rungs}
use Rattle.lgx_prog.specs.FlatProgram.{Program, IsFlatProgram}
use Rattle.lgx_versions.specs.declared.slots.Version.{Version}
use Rattle.lgx_versions.specs.Roles.{Roles, hold, selected}
use Rattle.lgx_versions.specs.View.{VersionsView, AreSlotsOf}

-- the machine's book of a program, and the program's versions
pub record EditsView : Type 0 where
  pub book : Book
  pub versions : VersionsView

-- ---- what always holds

abbrev pub rungs_of : ℕ → List RoutineText → ProgramRungs
rungs_of main routines = record { routines = map (λ r. r.checked) routines; main = main }

-- the merged rungs of each routine are the base with its accepted edits
abbrev pub HasMergedTexts : Book → Type 0
HasMergedTexts b =
    (n : ℕ) → n < length b.base → (routine_at b.merged n).source ≡ merged (routine_at b.base n).source (changes_in b n)

-- A book and versions of one program. The base is flat code of the base rungs. There is a merged program exactly if edits
-- are accepted; it is flat code of the merged rungs, and has the last accept's number. Only accepted edits are tested.
pub record AreTied (b : Book) (r : Roles) : Type 0 where
  pub number : r.base.number ≡ b.number
  pub newest : r.newest ≡ b.newest
  pub testing : r.testing ≡ b.testing
  pub base : IsFlatProgram r.base.program (rungs_of b.main b.base)
  pub merged : (v : Version) → r.merged ≡ Some v → IsFlatProgram v.program (rungs_of b.main b.merged)
  pub last : (v : Version) → r.merged ≡ Some v → v.number ≡ b.newest
  pub accepted : is_some r.merged ≡ has_accepted b
  pub tested : IsTrue r.testing → IsSome r.merged
  -- the main routine is there, and each routine has a number of 32 bits
  pub main : b.main < length b.base
  pub few : length b.base < 2 ^ 32
  -- each merged routine has the rungs of the base with its accepted edits
  pub texts : HasMergedTexts b

-- the program is flat code of the rungs that are selected
abbrev pub RunsSelected : Program → Book → Type 0
RunsSelected program book = IsFlatProgram program (selected_rungs book)

-- ---- the commands on one book

abbrev pub may_edit : ℕ → Book → Result (Unit {0}) EditFault
may_edit lane b = do
  _ ← none_or (other_owner b lane) E3
  _ ← unless (has_accepted b) E10
  Ok tt

-- a command on what is accepted: refused if it is another lane's, if nothing is accepted, and by its own cause
abbrev pub on_book : (Book → Result Book EditFault) → ℕ → Book → Result Book EditFault
on_book change lane b = do
  _ ← none_or (other_owner b lane) E3
  _ ← unless (has_accepted b) E10
  change b

-- What a command answers and leaves. After a refusal all is as before; the held program is the same after each.
abbrev pub AnswersBook : Result Book EditFault → EditsView → EditsView → Result (Unit {0}) EditFault → Type 0
AnswersBook (Ok book) old new answer = (answer ≡ Ok tt) × (new.book ≡ book) × (new.versions.roles.held ≡ old.versions.roles.held)
AnswersBook (Err fault) old new answer = (answer ≡ Err fault) × (new ≡ old)

-- The selected program is held from now on; it is flat code of the selected rungs.
pub record IsHeldNow (old new : EditsView) : Type 0 where
  pub book : new.book ≡ old.book
  pub roles : new.versions.roles ≡ hold old.versions.roles
  pub numbered : (selected old.versions.roles).number ≡ selected_number old.book
  pub runs : RunsSelected (selected old.versions.roles).program old.book

-- ---- the commands on the books of all programs

abbrev pub books : List EditsView → List Book
books all = map (λ e. e.book) all

-- the held program of each
abbrev pub holds : List EditsView → List (Option Version)
holds all = map (λ e. e.versions.roles.held) all

-- What a command answers and leaves of all. After a refusal all is as before; what is held is the same after each.
abbrev pub Leaves : Result Edited EditFault → List EditsView → List EditsView → Result (Unit {0}) EditFault → Type 0
Leaves (Ok edited) old new answer = (answer ≡ Ok tt) × (books new ≡ edited.books) × (holds new ≡ holds old)
Leaves (Err fault) old new answer = (answer ≡ Err fault) × (new ≡ old)

-- the held program of program n
abbrev pub held_at : List EditsView → ℕ → Option Version
held_at all n = slice_index_or (holds all) n None

-- the numbers in the slots of program n
abbrev pub slots_at : List EditsView → ℕ → List (Option ℕ)
slots_at all n = slice_index_or (map (λ e. e.versions.slots) all) n []

-- each version that a program has lies in a slot of its own, and nothing else does
abbrev pub AreSlotsAt : EditsView → Type 0
AreSlotsAt e = AreSlotsOf e.versions.roles e.versions.slots

-- Of program n a version of this number is held from now on: flat code of the rungs that are selected.
pub record HoldsNow (n number : ℕ) (old new : List EditsView) : Type 0 where
  pub version : Version
  pub numbered : version.number ≡ number
  pub runs : RunsSelected version.program (book_at (books old) n)
  pub holds : holds new ≡ slice_set (holds old) n (Some version)
