-- Online edits of rungs (1756-PM008).
use Rattle.std.specs.Prelude.{ℕ, ◌+◌, Bool, true, false, List, [], ◌∷◌, ◌++◌, map, length, nat_lt, nat_le, nat_eq, if◌then◌else◌, Option, Some, None, Result, Ok, Err, sum_by, flat_map, filter_map, slice_set, slice_index_or}
use Rattle.std.specs.List.{list_any, position_from, enumerate_from}
use Rattle.spec_base.specs.declared.limits.TheConstants.{MAX_PROGRAM_INSTRUCTIONS}
use Rattle.lgx_num.specs.Name.{same}
use Rattle.lgx_rung.specs.Tree.{instructions, Source}
use Rattle.spec_machine.specs.declared.event.RungEdit.{RungEdit}
use Rattle.spec_machine.specs.declared.event.RungEdit.TheVariants.{Replace, Insert, Delete}
use Rattle.spec_machine.specs.Commands.{AcceptCommand}
use Rattle.spec_machine.specs.declared.event.Action.{Action}
use Rattle.spec_machine.specs.declared.event.Action.TheVariants.{Accept, Test, Untest, Assemble, Cancel}
use Rattle.spec_machine.specs.declared.reply.EditFault.{EditFault}
use Rattle.spec_machine.specs.declared.reply.EditFault.TheVariants.{E1, E2, E3, E5, E6, E7, E8, E9, E10, E11, E12}
use Rattle.spec_machine.specs.declared.reply.Reply.{Reply}
use Rattle.spec_machine.specs.declared.reply.Reply.TheVariants.{Done, Version}
use Rattle.spec_language.specs.declared.names.TaskName.{TaskName}
use Rattle.spec_scan.specs.Position.{Rungs, ProgramRungs}
use Rattle.spec_machine.specs.Project.{RoutineText, ProgramText}
use Rattle.spec_language.specs.Declarations.{Declarations}
use Rattle.spec_language.specs.Checked.{CheckScope, checked}
use Rattle.lgx_rung.specs.Tokens.{read_rung}
use Rattle.spec_base.specs.FirstCause.{◌>>=◌, unless, some_or}

-- ---- merged rungs

-- what an accepted edit does to a routine; it names rungs by their number in the base, from 0
pub data Change : Type 0 where
  Replaced : ℕ → Source → Change
  Inserted : ℕ → Source → Change
  Deleted : ℕ → Change

-- the rung that a change puts before rung i
abbrev pub put_before : ℕ → Change → Option Source
put_before i (Inserted k new) = if nat_eq k i then Some new else None
put_before i _ = None

-- what a change leaves in place of rung i
abbrev pub put_instead : ℕ → Change → Option (List Source)
put_instead i (Replaced k new) = if nat_eq k i then Some (new ∷ []) else None
put_instead i (Deleted k) = if nat_eq k i then Some [] else None
put_instead i (Inserted k new) = None

-- the rungs before rung i in the order in which they were accepted, and then rung i, unless it was deleted, or its
-- replacement
abbrev pub around : List Change → ℕ × Source → List Source
around changes (i, rung) =
    filter_map (put_before i) changes ++ slice_index_or (filter_map (put_instead i) changes) 0 (rung ∷ [])

-- The merged routine has these for each rung of the base, and then the rungs that were inserted after the last.
abbrev pub merged : List Source → List Change → List Source
merged base changes =
    flat_map (around changes) (enumerate_from 0 base) ++ filter_map (put_before (length base)) changes

-- ---- the book of a program's edits

-- an accepted edit, and the number of its routine
pub record AcceptedEdit : Type 0 where
  pub routine : ℕ
  pub change : Change

-- A program's rungs: the base, and the merged ones, which have the accepted edits. The base's number, and that of the
-- last accept: accepts are numbered 1, 2, .. and never start again. The owner is the lane that accepted, from its
-- first accept until the edits are assembled or cancelled (profile).
pub record Book : Type 0 where
  pub name : List ℕ
  pub main : ℕ
  pub base : List RoutineText
  pub merged : List RoutineText
  pub accepted : List AcceptedEdit
  pub number : ℕ
  pub newest : ℕ
  pub owner : Option ℕ
  pub testing : Bool

abbrev pub book_of : ProgramText → Book
book_of p = record { name = p.name; main = p.main; base = p.routines; merged = p.routines; accepted = []; number = 0; newest = 0; owner = None; testing = false }

abbrev pub no_book : Book
no_book = record { name = []; main = 0; base = []; merged = []; accepted = []; number = 0; newest = 0; owner = None; testing = false }

abbrev pub book_at : List Book → ℕ → Book
book_at books n = slice_index_or books n no_book

abbrev pub no_routine : RoutineText
no_routine = record { name = []; source = []; checked = [] }

abbrev pub routine_at : List RoutineText → ℕ → RoutineText
routine_at routines n = slice_index_or routines n no_routine

-- The rungs that are selected: the merged ones while testing, and else the base. They have that text's number.
abbrev pub selected_texts : Book → List RoutineText
selected_texts b = if b.testing then b.merged else b.base

abbrev pub selected : Book → ProgramRungs
selected b = record { routines = map (λ r. r.checked) (selected_texts b); main = b.main }

abbrev pub selected_number : Book → ℕ
selected_number b = if b.testing then b.newest else b.number

-- ---- refusals: the first that applies

abbrev pub none_or : Option ℕ → (ℕ → EditFault) → Result Bool EditFault
none_or None e = Ok true
none_or (Some x) e = Err (e x)

abbrev pub ok_or_cause : {A F : Type 0} → Result A F → (F → EditFault) → Result A EditFault
ok_or_cause (Ok x) e = Ok x
ok_or_cause (Err f) e = Err (e f)

abbrev pub program_named : List Book → List ℕ → Result ℕ EditFault
program_named books name = some_or (position_from (λ b. same b.name name) 0 books) E1

abbrev pub routine_named : Book → List ℕ → Result ℕ EditFault
routine_named b name = some_or (position_from (λ r. same r.name name) 0 b.base) E2

abbrev pub unless_same : ℕ → Option ℕ → Option ℕ
unless_same lane None = None
unless_same lane (Some owner) = if nat_eq owner lane then None else Some owner

-- the owner, if it is another lane
abbrev pub other_owner : Book → ℕ → Option ℕ
other_owner b lane = unless_same lane b.owner

-- an edit names a rung that isn't there
abbrev pub is_misplaced : ℕ → RungEdit → Bool
is_misplaced len (Replace i text) = nat_le len i
is_misplaced len (Delete i) = nat_le len i
is_misplaced len (Insert i text) = nat_lt len i

-- the rung that an edit replaces or deletes
abbrev pub takes : RungEdit → List ℕ
takes (Replace i text) = i ∷ []
takes (Delete i) = i ∷ []
takes (Insert i text) = []

abbrev pub taken_by : Change → List ℕ
taken_by (Replaced i new) = i ∷ []
taken_by (Deleted i) = i ∷ []
taken_by (Inserted i new) = []

-- the first edit that replaces or deletes a rung of those taken or of those that earlier edits took, where it is number k
abbrev pub first_again : ℕ → List ℕ → List RungEdit → Option ℕ
first_again k taken [] = None
first_again k taken (e ∷ es) =
    if list_any (λ i. list_any (nat_eq i) taken) (takes e) then Some k else first_again (k + 1) (takes e ++ taken) es

abbrev pub read_or_cause : ℕ → List ℕ → Result Source EditFault
read_or_cause k text = ok_or_cause (read_rung text) (E7 k)

abbrev pub change_of : ℕ → RungEdit → Result Change EditFault
change_of k (Replace i text) = read_or_cause k text >>= λ new. Ok (Replaced i new)
change_of k (Insert i text) = read_or_cause k text >>= λ new. Ok (Inserted i new)
change_of k (Delete i) = Ok (Deleted i)

-- the edits with their texts read, where the first is number k
abbrev pub changes_of : ℕ → List RungEdit → Result (List Change) EditFault
changes_of k [] = Ok []
changes_of k (e ∷ es) = change_of k e >>= λ c. changes_of (k + 1) es >>= λ cs. Ok (c ∷ cs)

-- the accepted changes of a routine
abbrev pub change_in : ℕ → AcceptedEdit → Option Change
change_in r e = if nat_eq e.routine r then Some e.change else None

abbrev pub changes_in : Book → ℕ → List Change
changes_in b r = filter_map (change_in r) b.accepted

abbrev pub instruction_count : List RoutineText → ℕ
instruction_count routines = sum_by (λ r. sum_by (λ rung. length (instructions rung)) r.source) routines

abbrev pub scope_of : Declarations → List TaskName → ℕ → Book → CheckScope
scope_of tags tasks n b = record { tags = tags; program = n; routines = map (λ r. r.name) b.base; tasks = tasks }

-- ---- the five commands

-- the book with these changes of a routine, whose merged rungs are then these
abbrev pub with_changes : ℕ → ℕ → List Change → List Source → Rungs → Book → Book
with_changes lane r changes source rungs b =
    record b { merged = slice_set b.merged r (record (routine_at b.merged r) { source = source; checked = rungs }); accepted = b.accepted ++ map (λ c. record { routine = r; change = c }) changes; newest = b.newest + 1; owner = Some lane }

-- An accept on a routine's book; it may be tested, and stays so: then the new merged rungs are selected. Refused are
-- another lane's program; the first edit of a rung that isn't there; the first that replaces or deletes a rung a second
-- time; the first whose text is refused; a merged routine that is refused; and a merged program with too many
-- instructions.
abbrev pub accept_in : CheckScope → ℕ → ℕ → List RungEdit → Book → Result Book EditFault
accept_in scope lane r edits b = do
  _ ← none_or (other_owner b lane) E3
  _ ← none_or (position_from (is_misplaced (length (routine_at b.base r).source)) 0 edits) E5
  _ ← none_or (first_again 0 (flat_map taken_by (changes_in b r)) edits) E6
  changes ← changes_of 0 edits
  let source = merged (routine_at b.base r).source (changes_in b r ++ changes) in do
    rungs ← ok_or_cause (checked scope source) E8
    let b' = with_changes lane r changes source rungs b in do
      _ ← unless (nat_le (instruction_count b'.merged) MAX_PROGRAM_INSTRUCTIONS) E9
      Ok b'

-- the books after a command, and its reply
pub record Edited : Type 0 where
  pub books : List Book
  pub reply : Reply

-- An accept is refused first if its program or its routine isn't there. It is answered by its number.
abbrev pub accept : Declarations → List TaskName → List Book → ℕ → AcceptCommand → Result Edited EditFault
accept tags tasks books lane command = do
  n ← program_named books command.program
  let b = book_at books n in do
    r ← routine_named b command.routine
    b' ← accept_in (scope_of tags tasks n b) lane r command.edits b
    Ok (record { books = slice_set books n b'; reply = Version b'.newest })

abbrev pub has_accepted : Book → Bool
has_accepted b = nat_lt 0 (length b.accepted)

-- The other four are refused if the program isn't there, if it is another lane's, if nothing is accepted, and
-- then by a cause of their own.
abbrev pub on_accepted : (Book → Result Book EditFault) → List Book → ℕ → List ℕ → Result Edited EditFault
on_accepted change books lane name = do
  n ← program_named books name
  let b = book_at books n in do
    _ ← none_or (other_owner b lane) E3
    _ ← unless (has_accepted b) E10
    b' ← change b
    Ok (record { books = slice_set books n b'; reply = Done })

-- select the merged rungs
abbrev pub test : Book → Result Book EditFault
test b = if b.testing then Err E11 else Ok (record b { testing = true })

-- select the base
abbrev pub untest : Book → Result Book EditFault
untest b = if b.testing then Ok (record b { testing = false }) else Err E12

-- make the merged rungs the base, whether testing or not
abbrev pub assemble : Book → Result Book EditFault
assemble b = Ok (record b { base = b.merged; number = b.newest; accepted = []; owner = None; testing = false })

-- drop the accepted edits, also while testing
abbrev pub cancel : Book → Result Book EditFault
cancel b = Ok (record b { merged = b.base; accepted = []; owner = None; testing = false })

-- An edit command of a lane: the books after it, or the first cause. No other action is one.
abbrev pub edit : Declarations → List TaskName → List Book → ℕ → Action → Option (Result Edited EditFault)
edit tags tasks books lane (Accept command) = Some (accept tags tasks books lane command)
edit tags tasks books lane (Test name) = Some (on_accepted test books lane name)
edit tags tasks books lane (Untest name) = Some (on_accepted untest books lane name)
edit tags tasks books lane (Assemble name) = Some (on_accepted assemble books lane name)
edit tags tasks books lane (Cancel name) = Some (on_accepted cancel books lane name)
edit tags tasks books lane _ = None
