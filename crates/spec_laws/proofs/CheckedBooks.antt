-- Each event keeps the books checked.
use Rattle.std.proofs.Common.{◌≡◌, ℕ, zero, suc, ◌+◌, ◌<◌, inl, inr, Bool, true, false, List, [], ◌∷◌, ◌++◌, length, map, Some, refl, sym, ◌∙◌, ap, subst, arith}
use Rattle.std.specs.Prelude.{Result, Ok, Err, slice_set, slice_index_or}
use Rattle.std.specs.List.{AllByRecursion as Each, enumerate_from}
use Rattle.std.proofs.lemmas.Bool.{cases_lt}
use Rattle.std.proofs.lemmas.List.{get_or_past, length-map}
use Rattle.std.proofs.Math.Seq.{map-set_same}
use Rattle.lgx_rung.specs.Tree.{Source}
use Rattle.spec_base.proofs.Binds.{ok_inj, err_not_ok}
use Rattle.spec_language.specs.Checked.{CheckScope, checked}
use Rattle.spec_machine.specs.declared.event.Event.{Event}
use Rattle.spec_machine.specs.declared.event.Event.TheVariants as events
use Rattle.spec_machine.specs.declared.event.Action.{Action}
use Rattle.spec_machine.specs.declared.event.Action.TheVariants as action
use Rattle.spec_machine.specs.declared.reply.EditFault.{EditFault}
use Rattle.spec_machine.specs.Commands.{AcceptCommand}
use Rattle.spec_machine.specs.Edits.{Change, Book, book_of, book_at, no_routine, routine_at, changes_in, merged, with_changes, Edited, edit, accept, scope_of, test, untest, assemble, cancel}
use Rattle.spec_machine.specs.Actions.{act}
use Rattle.spec_machine.specs.Machine.{step, run_from, run}
use Rattle.spec_machine.specs.Project.{Project, ProgramText, RoutineText}
use Rattle.spec_machine.specs.State.{State, Plan, start}
use Rattle.spec_machine.specs.ValidProject.{IsValidProject, IsChecked}
use Rattle.spec_scan.specs.Position.{Rungs}
use Rattle.spec_reach.proofs.BookActions.{ActsOnBooks, Edits, Keeps, acts_on_books}
use Rattle.spec_reach.proofs.Books.{step_books, tick_books}
use Rattle.spec_reach.proofs.EditNames.{accepted_parts, is_accepted, IsChanged, is_changed}
use Rattle.spec_reach.proofs.Reached.{IsReached, reached_start, reached_next, known_at}
use Rattle.spec_legal.specs.EditByEdit.{with_edits}
use Rattle.spec_legal.proofs.MergedBooks.{books-are-merged}
use Rattle.spec_laws.specs.CheckedBooks.{BooksAreChecked}
use Rattle.spec_laws.proofs.TakenOnce.{TakesOnce, accepted_once}

-- one of a list of books is set
set_at : (G : ℕ → Book → Type 0) (books : List Book) (n : ℕ) (b : Book) → ((k : ℕ) → G k (book_at books k)) → G n b → (k : ℕ) → G k (book_at (slice_set books n b) k)
set_at G [] n b h g k = h k
set_at G (x ∷ xs) zero b h g zero = g
set_at G (x ∷ xs) zero b h g (suc k) = h (suc k)
set_at G (x ∷ xs) (suc n) b h g zero = h zero
set_at G (x ∷ xs) (suc n) b h g (suc k) = set_at (λ j. G (suc j)) xs n b (λ j. h (suc j)) g k

abbrev no_program : ProgramText
no_program = record { name = []; routines = []; main = 0 }

book_here : (qs : List ProgramText) (n : ℕ) → book_at (map book_of qs) n ≡ book_of (slice_index_or qs n no_program)
book_here [] n = refl
book_here (q ∷ qs) zero = refl
book_here (q ∷ qs) (suc n) = book_here qs n

abbrev names_in : List RoutineText → List (List ℕ)
names_in routines = map (λ r. r.name) routines

module _ (p : Project) where
  abbrev program : ℕ → ProgramText
  program n = slice_index_or p.programs n no_program

  -- the scope of a program by the names of routines
  abbrev scope_by : ℕ → List (List ℕ) → CheckScope
  scope_by n names = record { tags = p.tags; program = n; routines = names; tasks = p.names }

  abbrev names_at : ℕ → List (List ℕ)
  names_at n = names_in (program n).routines

  abbrev IsText : ℕ → RoutineText → Type 0
  IsText n r = checked (scope_by n (names_at n)) r.source ≡ Ok r.checked

  record Holds (n : ℕ) (b : Book) : Type 0 where
    base_names : names_in b.base ≡ names_at n
    merged_names : names_in b.merged ≡ names_at n
    base : Each (IsText n) b.base
    merged_ones : Each (IsText n) b.merged
    once : TakesOnce b

  set_each : (n : ℕ) (rs : List RoutineText) (r : ℕ) (x : RoutineText) → IsText n x → Each (IsText n) rs → Each (IsText n) (slice_set rs r x)
  set_each n [] r x k h = tt
  set_each n (y ∷ ys) zero x k h = (k, h.1)
  set_each n (y ∷ ys) (suc r) x k h = (h.0, set_each n ys r x k h.1)

  text_at : (n : ℕ) (rs : List RoutineText) (r : ℕ) → Each (IsText n) rs → r < length rs → IsText n (routine_at rs r)
  text_at n [] r h l = absurd (omega arith)
  text_at n (y ∷ ys) zero h l = h.0
  text_at n (y ∷ ys) (suc r) h l = text_at n ys r h.1 (omega arith)

  changes_hold : (n lane r : ℕ) (changes : List Change) (source : List Source) (rungs : Rungs) (b : Book) → Holds n b → checked (scope_of p.tags p.names n b) source ≡ Ok rungs → TakesOnce (with_changes lane r changes source rungs b) → Holds n (with_changes lane r changes source rungs b)
  changes_hold n lane r changes source rungs b h k once =
      let text : RoutineText = record (routine_at b.merged r) { source = source; checked = rungs } in
      record {
        base_names = h.base_names;
        merged_names = map-set_same (λ (x : RoutineText). x.name) b.merged r text no_routine refl ∙ h.merged_names;
        base = h.base;
        merged_ones = set_each n b.merged r text (ap (λ names. checked (scope_by n names) source) (sym h.base_names) ∙ k) h.merged_ones;
        once = once;
      }

  abbrev KeepsHold : (Book → Result Book EditFault) → Type 0
  KeepsHold change = (n : ℕ) (b c : Book) → change b ≡ Ok c → Holds n b → Holds n c

  test_holds : KeepsHold test
  test_holds n b c e h = go b.testing e
    where
      go : (t : Bool) → test (record b { testing = t }) ≡ Ok c → Holds n c
      go true e = err_not_ok _ c e
      go false e = subst (Holds n) (ok_inj _ c e) (record { base_names = h.base_names; merged_names = h.merged_names; base = h.base; merged_ones = h.merged_ones; once = h.once })

  untest_holds : KeepsHold untest
  untest_holds n b c e h = go b.testing e
    where
      go : (t : Bool) → untest (record b { testing = t }) ≡ Ok c → Holds n c
      go true e = subst (Holds n) (ok_inj _ c e) (record { base_names = h.base_names; merged_names = h.merged_names; base = h.base; merged_ones = h.merged_ones; once = h.once })
      go false e = err_not_ok _ c e

  assemble_holds : KeepsHold assemble
  assemble_holds n b c e h = subst (Holds n) (ok_inj _ c e) (record { base_names = h.merged_names; merged_names = h.merged_names; base = h.merged_ones; merged_ones = h.merged_ones; once = λ r i. omega arith })

  cancel_holds : KeepsHold cancel
  cancel_holds n b c e h = subst (Holds n) (ok_inj _ c e) (record { base_names = h.base_names; merged_names = h.base_names; base = h.base; merged_ones = h.base; once = λ r i. omega arith })

  -- ---- all books

  abbrev AllHold : List Book → Type 0
  AllHold books = (n : ℕ) → Holds n (book_at books n)

  changed_hold : (change : Book → Result Book EditFault) (books : List Book) (lane : ℕ) (name : List ℕ) (e : Edited) → KeepsHold change → IsChanged change books lane name e → AllHold books → AllHold e.books
  changed_hold change books lane name e keeps x h =
      subst (λ (y : Edited). AllHold y.books) x.result (set_at Holds books x.number x.book h (keeps x.number (book_at books x.number) x.book x.changed (h x.number)))

  accept_holds : (books : List Book) (lane : ℕ) (c : AcceptCommand) (e : Edited) → accept p.tags p.names books lane c ≡ Ok e → AllHold books → AllHold e.books
  accept_holds books lane c e is h =
      let a = is_accepted p.tags p.names books lane c e is in
      let b = book_at books a.number in
      let parts = accepted_parts (scope_of p.tags p.names a.number b) lane a.routine c.edits b a.book a.accepted in
      let holds = changes_hold a.number lane a.routine parts.0 (merged (routine_at b.base a.routine).source (changes_in b a.routine ++ parts.0)) parts.1 b (h a.number) parts.3 (subst TakesOnce (sym parts.2) (accepted_once (scope_of p.tags p.names a.number b) lane a.routine c.edits b a.book a.accepted (h a.number).once)) in
      subst (λ (y : Edited). AllHold y.books) a.result (set_at Holds books a.number a.book h (subst (Holds a.number) parts.2 holds))

  edit_holds : (books : List Book) (lane : ℕ) (a : Action) (e : Edited) → edit p.tags p.names books lane a ≡ Some (Ok e) → AllHold books → AllHold e.books
  edit_holds books lane (action.Accept c) e k h = accept_holds books lane c e (cc k) h
  edit_holds books lane (action.Test n) e k h = changed_hold test books lane n e test_holds (is_changed test books lane n e (cc k)) h
  edit_holds books lane (action.Untest n) e k h = changed_hold untest books lane n e untest_holds (is_changed untest books lane n e (cc k)) h
  edit_holds books lane (action.Assemble n) e k h = changed_hold assemble books lane n e assemble_holds (is_changed assemble books lane n e (cc k)) h
  edit_holds books lane (action.Cancel n) e k h = changed_hold cancel books lane n e cancel_holds (is_changed cancel books lane n e (cc k)) h
  edit_holds books lane _ e k h = absurd (cc k)

  -- ---- a run

  act_holds : (s : State) (lane : ℕ) (a : Action) → IsReached p s → ActsOnBooks s lane a → AllHold s.books → AllHold (act s lane a).state.books
  act_holds s lane a r (Keeps none same) h = subst AllHold (sym same) h
  act_holds s lane a r (Edits (Err f) is acts) h = subst AllHold (sym (ap (λ x. x.state.books) acts)) h
  act_holds s lane a r (Edits (Ok e) is acts) h =
      subst AllHold (sym (ap (λ x. x.state.books) acts))
      (edit_holds s.books lane a e (ap (λ (plan : Plan). edit plan.tags plan.names s.books lane a) (sym (known_at p s r).sizes.same_plan) ∙ is) h)

  event_holds : (s : State) (e : Event) → IsReached p s → AllHold s.books → AllHold (step s e).state.books
  event_holds s events.Cpu r h = subst AllHold (sym (step_books s)) h
  event_holds s events.Tick r h = subst AllHold (sym (tick_books s)) h
  event_holds s (events.Act lane a) r h = act_holds s lane a r (acts_on_books s lane a) h

  from_holds : (s : State) (es : List Event) → IsReached p s → AllHold s.books → AllHold (run_from s es).books
  from_holds s [] r h = h
  from_holds s (e ∷ es) r h = from_holds (step s e).state es (reached_next p s e r) (event_holds s e r h)

  checked_at : (i : ℕ) (qs : List ProgramText) (n : ℕ) → Each (IsChecked p) (enumerate_from i qs) → n < length qs → IsChecked p (i + n, slice_index_or qs n no_program)
  checked_at i [] n h l = absurd (omega arith)
  checked_at i (q ∷ qs) zero h l = subst (λ j. IsChecked p (j, q)) (let z : i ≡ i + 0 = omega arith in z) h.0
  checked_at i (q ∷ qs) (suc n) h l =
      subst (λ j. IsChecked p (j, slice_index_or qs n no_program)) (let z : i + 1 + n ≡ i + suc n = omega arith in z) (checked_at (i + 1) qs n h.1 (omega arith))

  texts_at : IsValidProject p → (n : ℕ) → Each (IsText n) (program n).routines
  texts_at valid n =
      elim (cases_lt n (length p.programs)) [
        | inl l ↦ subst (λ j. Each (λ (r : RoutineText). checked (scope_by j (names_at n)) r.source ≡ Ok r.checked) (program n).routines) (let z : 0 + n ≡ n = omega arith in z) (checked_at 0 p.programs n valid.rungs l)
        | inr g ↦ subst (λ (q : ProgramText). Each (IsText n) q.routines) (sym (get_or_past p.programs n no_program g)) tt
      ]

  start_holds : IsValidProject p → AllHold (start p).books
  start_holds valid n =
      let texts = texts_at valid n in
      subst (Holds n) (sym (book_here p.programs n)) (record { base_names = refl; merged_names = refl; base = texts; merged_ones = texts; once = λ r i. omega arith })

  -- ---- what is said of a book

  of_base : (n : ℕ) (b : Book) → Holds n b → Each (λ r. checked (scope_of p.tags p.names n b) r.source ≡ Ok r.checked) b.base
  of_base n b h = subst (λ names. Each (λ (r : RoutineText). checked (scope_by n names) r.source ≡ Ok r.checked) b.base) (sym h.base_names) h.base

  same_many : (n : ℕ) (b : Book) → Holds n b → length b.merged ≡ length b.base
  same_many n b h =
      sym (length-map b.merged (λ (r : RoutineText). r.name)) ∙ (ap (λ (ns : List (List ℕ)). length ns) (h.merged_names ∙ sym h.base_names) ∙ length-map b.base (λ (r : RoutineText). r.name))

  pub books_are_checked : IsValidProject p → BooksAreChecked p
  books_are_checked valid journal n l =
      let b = book_at (run p journal).books n in
      let h = from_holds (start p) journal (reached_start p) (start_holds valid) n in
      record {
        base = of_base n b h;
        many = same_many n b h;
        merged_ones = λ r k.
            (ap (λ names. checked (scope_by n names) (with_edits (routine_at b.base r).source (changes_in b r))) h.base_names
            ∙ (ap (λ source. checked (scope_by n (names_at n)) source) (sym (books-are-merged p journal n r)) ∙ text_at n b.merged r h.merged_ones (let m = same_many n b h in omega arith)));
        taken_once = h.once;
      }
