-- An accept keeps books ready: its merged rungs were checked.
use Rattle.std.proofs.Common.{◌≡◌, ℕ, ◌+◌, ◌<◌, ◌≤◌, List, [], ◌∷◌, length, slice_set, true, Ok, refl, subst, arith, length-set}
use Rattle.std.specs.List.{AllByRecursion as Each}
use Rattle.std.proofs.lemmas.Bool.{lt-ltb}
use Rattle.spec_base.specs.declared.limits.TheConstants.{MAX_EVENTS}
use Rattle.spec_base.proofs.Binds.{bind_ok, ok_inj}
use Rattle.lgx_rung.specs.Tree.{Source}
use Rattle.spec_language.specs.declared.names.TaskName.{TaskName}
use Rattle.spec_language.specs.Declarations.{Declarations, bytes}
use Rattle.spec_language.specs.ResolutionLaws.{Sound}
use Rattle.spec_language.specs.Checked.{checked}
use Rattle.spec_language.proofs.OperandBounds.{checked_lies}
use Rattle.spec_scan.specs.Position.{Rungs}
use Rattle.spec_scan.specs.Executable.{AreExecutable}
use Rattle.spec_scan.specs.KnownTasks.{KnowsTasks}
use Rattle.spec_machine.specs.declared.event.RungEdit.{RungEdit}
use Rattle.spec_machine.specs.declared.reply.Reply.TheVariants.{Version}
use Rattle.spec_machine.specs.Commands.{AcceptCommand}
use Rattle.spec_machine.specs.Project.{RoutineText}
use Rattle.spec_machine.specs.Edits.{Change, Book, Edited, no_book, book_at, routine_at, program_named, routine_named, scope_of, with_changes, accept_in, accept}
use Rattle.spec_machine.proofs.CheckedExecutable.{checked_ready}
use Rattle.spec_machine.proofs.CheckedTasks.{checked_know_tasks}
use Rattle.lgx_edit.specs.Accepting.{has_numbers_left}
use Rattle.lgx_edit.proofs.CheckedBooks.{accepted-in}
use Rattle.lgx_edit.proofs.Elements.{each-set, each-get_or}
use Rattle.lgx_steps.specs.Plans.{IsReadyBook}
use Rattle.lgx_steps.proofs.Editing.{no-rungs}

module _ (tags : Declarations) (names : List TaskName) (sound : Sound tags) where
  -- a routine that was checked is ready, and so are the merged ones with it
  with-routine : (n lane r : ℕ) (k : ℕ) (scoped b : Book) (changes : List Change) (source : List Source) (rungs : Rungs) → checked (scope_of tags names k scoped) source ≡ Ok rungs → IsReadyBook (bytes tags) (length names) n b → IsReadyBook (bytes tags) (length names) (n + 1) (with_changes lane r changes source rungs b)
  with-routine n lane r k scoped b changes source rungs e h =
      let routine : RoutineText = record (routine_at b.merged r) { source = source; checked = rungs } in
      record {
        base = h.base;
        merged = record {
          executable = each-set (λ (q : RoutineText). AreExecutable (bytes tags) q.checked) b.merged r routine h.merged.executable (checked_ready checked_lies (scope_of tags names k scoped) source rungs sound e);
          know = each-set (λ (q : RoutineText). KnowsTasks (length names) q.checked) b.merged r routine h.merged.know (checked_know_tasks (scope_of tags names k scoped) source rungs e);
        };
        newest = omega (arith, h.newest);
      }

  in-ready : (n lane r k : ℕ) (scoped b b' : Book) (edits : List RungEdit) → IsReadyBook (bytes tags) (length names) n b → accept_in (scope_of tags names k scoped) lane r edits b ≡ Ok b' → IsReadyBook (bytes tags) (length names) (n + 1) b'
  in-ready n lane r k scoped b b' edits h is =
      let a = accepted-in (scope_of tags names k scoped) lane r edits b b' is in
      subst (IsReadyBook (bytes tags) (length names) (n + 1)) a.is (with-routine n lane r k scoped b a.changes a.source a.rungs a.checks h)

  -- the books after an accept
  pub record StaysReady (n : ℕ) (bs : List Book) (e : Edited) : Type 0 where
    pub many : length e.books ≡ length bs
    pub ready : Each (IsReadyBook (bytes tags) (length names) (n + 1)) e.books

  pub accept-ready : (n lane : ℕ) (command : AcceptCommand) (bs : List Book) (e : Edited) → Each (IsReadyBook (bytes tags) (length names) n) bs → Each (IsReadyBook (bytes tags) (length names) (n + 1)) bs → accept tags names bs lane command ≡ Ok e → StaysReady n bs e
  accept-ready n lane command bs e h later is =
      let r₁ = bind_ok (program_named bs command.program) _ e is in
      let k : ℕ = r₁.0 in
      let b : Book = book_at bs k in
      let r₂ = bind_ok (routine_named b command.routine) _ e r₁.2 in
      let r₃ = bind_ok (accept_in (scope_of tags names k b) lane r₂.0 command.edits b) _ e r₂.2 in
      let b' : Book = r₃.0 in
      let new : IsReadyBook (bytes tags) (length names) (n + 1) b' = in-ready n lane r₂.0 k b b b' command.edits (each-get_or (IsReadyBook (bytes tags) (length names) n) bs k no_book h (no-rungs (bytes tags) (length names) n)) r₃.1 in
      subst (StaysReady n bs) (ok_inj (record { books = slice_set bs k b'; reply = Version b'.newest }) e r₃.2)
      (record { many = length-set bs k b'; ready = each-set (IsReadyBook (bytes tags) (length names) (n + 1)) bs k b' later new })

-- ---- numbers are left

pub numbers-left : (len tasks n : ℕ) (bs : List Book) → n ≤ MAX_EVENTS → Each (IsReadyBook len tasks n) bs → has_numbers_left bs ≡ true
numbers-left len tasks n [] l h = refl
numbers-left len tasks n (b ∷ bs) l (here, others) =
    let few : b.newest < 4294967295 = omega (arith, here.newest) in
    rw (lt-ltb b.newest 4294967295 few, numbers-left len tasks n bs l others)
