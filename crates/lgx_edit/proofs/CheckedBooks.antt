-- Every edit command keeps books checked, and those of a valid project are so at first.
use Rattle.std.proofs.Common.{◌≡◌, ℕ, ◌+◌, List, [], ◌∷◌, map, length, slice_set, Bool, true, false, Result, Ok, Err, refl, ap, sym, subst, ◌∙◌, if◌then◌else◌, arith}
use Rattle.std.specs.Prelude.{nat_le, flat_map, ◌++◌}
use Rattle.std.specs.List.{AllByRecursion as Each, enumerate_from, position_from}
use Rattle.std.proofs.Math.Seq.{map-set_same}
use Rattle.spec_base.specs.FirstCause.{◌>>=◌, unless}
use Rattle.spec_base.specs.declared.limits.TheConstants.{MAX_PROGRAM_INSTRUCTIONS}
use Rattle.spec_base.proofs.Binds.{bind_ok, err_not_ok, ok_inj}
use Rattle.lgx_rung.specs.Tree.{Source}
use Rattle.spec_language.specs.declared.names.TaskName.{TaskName}
use Rattle.spec_language.specs.Declarations.{Declarations}
use Rattle.spec_language.specs.Checked.{CheckScope, checked}
use Rattle.spec_scan.specs.Position.{Rungs}
use Rattle.spec_machine.specs.declared.event.RungEdit.{RungEdit}
use Rattle.spec_machine.specs.declared.reply.EditFault.{EditFault}
use Rattle.spec_machine.specs.declared.reply.EditFault.TheVariants.{E3, E5, E6, E8, E9, E10, E11, E12}
use Rattle.spec_machine.specs.declared.reply.Reply.TheVariants.{Done, Version}
use Rattle.spec_machine.specs.Commands.{AcceptCommand}
use Rattle.spec_machine.specs.Project.{Project, ProgramText, RoutineText}
use Rattle.spec_machine.specs.ValidProject.{IsValidProject, IsChecked}
use Rattle.spec_machine.specs.Edits.{Change, Book, Edited, no_book, no_routine, book_of, book_at, routine_at, program_named, routine_named, none_or, ok_or_cause, other_owner, has_accepted, is_misplaced, first_again, taken_by, changes_in, changes_of, merged, scope_of, with_changes, instruction_count, accept_in, accept, on_accepted, test, untest, assemble, cancel}
use Rattle.lgx_edit.specs.CheckedBooks.{AreTextsChecked, IsBookChecked, AreChecked}
use Rattle.lgx_edit.proofs.Elements.{each-set, numbered-at, numbered-set}

-- ---- an accept on the book of one program

-- the changes of a routine that an accept added, its merged rungs, and these as they were checked
pub record Accepted (scope : CheckScope) (lane r : ℕ) (b b' : Book) : Type 0 where
  pub changes : List Change
  pub source : List Source
  pub rungs : Rungs
  pub checks : checked scope source ≡ Ok rungs
  pub is : with_changes lane r changes source rungs b ≡ b'

was-checked : {A F : Type 0} (r : Result A F) (e : F → EditFault) (x : A) → ok_or_cause r e ≡ Ok x → r ≡ Ok x
was-checked (Ok y) e x h = ap (λ z. Ok z) (ok_inj y x h)
was-checked (Err f) e x h = err_not_ok _ _ h

-- merged rungs that are checked, and few enough
made-in : (scope : CheckScope) (lane r : ℕ) (b b' : Book) (changes : List Change) (source : List Source)
    → (ok_or_cause (checked scope source) E8 >>= λ rungs. unless (nat_le (instruction_count (with_changes lane r changes source rungs b).merged) MAX_PROGRAM_INSTRUCTIONS) E9 >>= λ _. Ok (with_changes lane r changes source rungs b)) ≡ Ok b'
    → Accepted scope lane r b b'
made-in scope lane r b b' changes source is =
    let made = bind_ok (ok_or_cause (checked scope source) E8) _ b' is in
    few-in made.0 (was-checked (checked scope source) E8 made.0 made.1) made.2
  where
    few-in : (rungs : Rungs) → checked scope source ≡ Ok rungs → (unless (nat_le (instruction_count (with_changes lane r changes source rungs b).merged) MAX_PROGRAM_INSTRUCTIONS) E9 >>= λ _. Ok (with_changes lane r changes source rungs b)) ≡ Ok b' → Accepted scope lane r b b'
    few-in rungs checks few = record { changes = changes; source = source; rungs = rungs; checks = checks; is = ok_inj _ b' (bind_ok (unless (nat_le (instruction_count (with_changes lane r changes source rungs b).merged) MAX_PROGRAM_INSTRUCTIONS) E9) _ b' few).2 }

pub accepted-in : (scope : CheckScope) (lane r : ℕ) (edits : List RungEdit) (b b' : Book) → accept_in scope lane r edits b ≡ Ok b' → Accepted scope lane r b b'
accepted-in scope lane r edits b b' is =
    let owned = bind_ok (none_or (other_owner b lane) E3) _ b' is in
    let placed = bind_ok (none_or (position_from (is_misplaced (length (routine_at b.base r).source)) 0 edits) E5) _ b' owned.2 in
    let once = bind_ok (none_or (first_again 0 (flat_map taken_by (changes_in b r)) edits) E6) _ b' placed.2 in
    let read = bind_ok (changes_of 0 edits) _ b' once.2 in
    made-in scope lane r b b' read.0 (merged (routine_at b.base r).source (changes_in b r ++ read.0)) read.2

module _ (tags : Declarations) (tasks : List TaskName) where
  abbrev IsKept : ℕ → Book → Type 0
  IsKept n b = IsBookChecked tags tasks n b

  with-routine : (n lane r : ℕ) (changes : List Change) (source : List Source) (rungs : Rungs) (b : Book) → checked (scope_of tags tasks n b) source ≡ Ok rungs → IsKept n b
      → IsKept n (with_changes lane r changes source rungs b)
  with-routine n lane r changes source rungs b e h =
      let routine : RoutineText = record (routine_at b.merged r) { source = source; checked = rungs } in
      record {
        base = h.base;
        merged = each-set (λ (t : RoutineText). checked (scope_of tags tasks n b) t.source ≡ Ok t.checked) b.merged r routine h.merged e;
        names = map-set_same (λ (t : RoutineText). t.name) b.merged r routine no_routine refl ∙ h.names;
      }

  in-kept : (n lane r : ℕ) (edits : List RungEdit) (b b' : Book) → accept_in (scope_of tags tasks n b) lane r edits b ≡ Ok b' → IsKept n b → IsKept n b'
  in-kept n lane r edits b b' is h =
      let a = accepted-in (scope_of tags tasks n b) lane r edits b b' is in
      subst (IsKept n) a.is (with-routine n lane r a.changes a.source a.rungs b a.checks h)

  -- ---- the other commands on the book of one program

  abbrev Keeps : (Book → Result Book EditFault) → Type 0
  Keeps change = (n : ℕ) (b b' : Book) → change b ≡ Ok b' → IsKept n b → IsKept n b'

  test-kept : Keeps test
  test-kept n b b' e h = go b.testing e
    where
      go : (x : Bool) → (if x then Err E11 else Ok (record b { testing = true })) ≡ Ok b' → IsKept n b'
      go true f = err_not_ok _ _ f
      go false f = subst (IsKept n) (ok_inj _ b' f) (record { base = h.base; merged = h.merged; names = h.names })

  untest-kept : Keeps untest
  untest-kept n b b' e h = go b.testing e
    where
      go : (x : Bool) → (if x then Ok (record b { testing = false }) else Err E12) ≡ Ok b' → IsKept n b'
      go true f = subst (IsKept n) (ok_inj _ b' f) (record { base = h.base; merged = h.merged; names = h.names })
      go false f = err_not_ok _ _ f

  -- the routines have the same names afterwards, and so the same scope
  assemble-kept : Keeps assemble
  assemble-kept n b b' e h =
      let scope : List (List ℕ) → CheckScope = λ names. record { tags = tags; program = n; routines = names; tasks = tasks } in
      let texts : AreTextsChecked (scope (map (λ r. r.name) b.merged)) b.merged = subst (λ names. AreTextsChecked (scope names) b.merged) (sym h.names) h.merged in
      subst (IsKept n) (ok_inj _ b' e) (record { base = texts; merged = texts; names = refl })

  cancel-kept : Keeps cancel
  cancel-kept n b b' e h = subst (IsKept n) (ok_inj _ b' e) (record { base = h.base; merged = h.base; names = refl })

  -- ---- the books of all programs

  nothing-kept : (n : ℕ) → IsKept n no_book
  nothing-kept n = record { base = tt; merged = tt; names = refl }

  -- the book of each program, also of one that isn't there
  pub checked-at : (bs : List Book) (n : ℕ) → AreChecked tags tasks bs → IsBookChecked tags tasks n (book_at bs n)
  checked-at bs n h = numbered-at IsKept 0 bs n n no_book (omega arith) h nothing-kept

  pub accept-keeps_checked : (lane : ℕ) (command : AcceptCommand) (bs : List Book) (e : Edited) → accept tags tasks bs lane command ≡ Ok e → AreChecked tags tasks bs → AreChecked tags tasks e.books
  accept-keeps_checked lane command bs e is h =
      let named = bind_ok (program_named bs command.program) _ e is in
      let n : ℕ = named.0 in
      let b : Book = book_at bs n in
      let found = bind_ok (routine_named b command.routine) _ e named.2 in
      let made = bind_ok (accept_in (scope_of tags tasks n b) lane found.0 command.edits b) _ e found.2 in
      let b' : Book = made.0 in
      let new : IsKept n b' = in-kept n lane found.0 command.edits b b' made.1 (checked-at bs n h) in
      subst (λ (x : Edited). AreChecked tags tasks x.books) (ok_inj (record { books = slice_set bs n b'; reply = Version b'.newest }) e made.2)
      (numbered-set IsKept 0 bs n n b' (omega arith) h new)

  command-keeps : (change : Book → Result Book EditFault) → Keeps change → (lane : ℕ) (name : List ℕ) (bs : List Book) (e : Edited) → on_accepted change bs lane name ≡ Ok e → AreChecked tags tasks bs → AreChecked tags tasks e.books
  command-keeps change keeps lane name bs e is h =
      let named = bind_ok (program_named bs name) _ e is in
      let n : ℕ = named.0 in
      let b : Book = book_at bs n in
      let owned = bind_ok (none_or (other_owner b lane) E3) _ e named.2 in
      let some = bind_ok (unless (has_accepted b) E10) _ e owned.2 in
      let made = bind_ok (change b) _ e some.2 in
      let b' : Book = made.0 in
      let new : IsKept n b' = keeps n b b' made.1 (checked-at bs n h) in
      subst (λ (x : Edited). AreChecked tags tasks x.books) (ok_inj (record { books = slice_set bs n b'; reply = Done }) e made.2)
      (numbered-set IsKept 0 bs n n b' (omega arith) h new)

-- a command on what is accepted keeps books checked
abbrev pub KeepsChecked : (Book → Result Book EditFault) → Type 0
KeepsChecked change = (tags : Declarations) (tasks : List TaskName) (lane : ℕ) (name : List ℕ) (bs : List Book) (e : Edited) → on_accepted change bs lane name ≡ Ok e → AreChecked tags tasks bs → AreChecked tags tasks e.books

pub test-keeps_checked : KeepsChecked test
test-keeps_checked tags tasks = command-keeps tags tasks test (test-kept tags tasks)

pub untest-keeps_checked : KeepsChecked untest
untest-keeps_checked tags tasks = command-keeps tags tasks untest (untest-kept tags tasks)

pub assemble-keeps_checked : KeepsChecked assemble
assemble-keeps_checked tags tasks = command-keeps tags tasks assemble (assemble-kept tags tasks)

pub cancel-keeps_checked : KeepsChecked cancel
cancel-keeps_checked tags tasks = command-keeps tags tasks cancel (cancel-kept tags tasks)

-- ---- books without edits

first-checked : (p : Project) (k : ℕ) (programs : List ProgramText) → Each (IsChecked p) (enumerate_from k programs)
    → Each (λ e. IsBookChecked p.tags p.names e.0 e.1) (enumerate_from k (map book_of programs))
first-checked p k [] h = tt
first-checked p k (q ∷ qs) h = (record { base = h.0; merged = h.0; names = refl }, first-checked p (k + 1) qs h.1)

pub project-checked : (p : Project) → IsValidProject p → AreChecked p.tags p.names (map book_of p.programs)
project-checked p v = first-checked p 0 p.programs v.rungs
