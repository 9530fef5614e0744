-- Books keep rungs that can run, since an accept checks what it merges.
use Rattle.std.proofs.Common.{◌≡◌, ℕ, zero, suc, ◌<◌, inl, inr, Bool, true, false, List, [], ◌∷◌, length, map, Option, Some, refl, sym, ◌∙◌, ap, subst, arith, length-set}
use Rattle.std.specs.Prelude.{Result, Ok, Err, slice_set, slice_index_or, nat_lt, IfSome}
use Rattle.std.specs.List.{AllByRecursion as Each, list_all}
use Rattle.std.proofs.lemmas.Bool.{and_parts, ltb-true, cases_lt}
use Rattle.std.proofs.lemmas.List.{length-map}
use Rattle.spec_base.proofs.Binds.{ok_inj, err_not_ok}
use Rattle.spec_language.specs.Declarations.{Declarations, bytes}
use Rattle.spec_language.specs.declared.names.TaskName.{TaskName}
use Rattle.spec_language.specs.ResolutionLaws.{Sound}
use Rattle.spec_language.proofs.OperandBounds.{checked_lies}
use Rattle.spec_scan.specs.Executable.{AreExecutable}
use Rattle.spec_scan.specs.KnownTasks.{KnowsTasks}
use Rattle.spec_machine.specs.declared.event.Event.{Event}
use Rattle.spec_machine.specs.declared.event.Event.TheVariants as events
use Rattle.spec_machine.specs.declared.event.Action.{Action}
use Rattle.spec_machine.specs.declared.event.Action.TheVariants as action
use Rattle.spec_machine.specs.declared.reply.EditFault.{EditFault}
use Rattle.spec_machine.specs.Commands.{AcceptCommand}
use Rattle.spec_machine.specs.Edits.{Book, book_of, no_book, book_at, routine_at, Edited, edit, accept_in, scope_of, selected, test, untest, assemble, cancel}
use Rattle.spec_machine.specs.Actions.{act}
use Rattle.spec_machine.specs.Machine.{step, run_from, run}
use Rattle.spec_machine.specs.Project.{Project, ProgramText, RoutineText}
use Rattle.spec_machine.specs.State.{State, Scan, Plan, progress_of, start}
use Rattle.spec_machine.specs.ProcessorStep.{next_program}
use Rattle.spec_tables.specs.Tasks.{TaskState, state_of}
use Rattle.spec_tables.proofs.StateLists.{chosen_up}
use Rattle.spec_machine.specs.ValidProject.{IsValidProject, has_targets, IsExecutableOver}
use Rattle.spec_machine.proofs.CheckedExecutable.{checked_ready}
use Rattle.spec_machine.proofs.CheckedTasks.{checked_know_tasks}
use Rattle.spec_machine.proofs.ValidProjects.{tasks_of, EachProgramHas}
use Rattle.spec_reach.specs.Programs.{IsAtProgram}
use Rattle.spec_reach.specs.Texts.{IsText, IsBook, BooksCanRun, IsProgram, ScansCanRun}
use Rattle.spec_reach.proofs.BookActions.{ActsOnBooks, Edits, Keeps, acts_on_books}
use Rattle.spec_reach.proofs.Books.{step_books, tick_books}
use Rattle.spec_reach.proofs.Changes.{TaskView, view_of, Change, Stays, Rotates, GoesDown, ComesUp, Restarts, Begins, Goes, Ends, changed, Makes, Known}
use Rattle.spec_reach.proofs.EditNames.{source_with, accepted_parts, is_accepted, IsChanged, is_changed}
use Rattle.spec_reach.proofs.Programs.{tasks_are_at_programs}
use Rattle.spec_reach.proofs.Sizes.{event_keeps_sizes}
use Rattle.spec_reach.proofs.Reached.{IsReached, reached_start, reached_next, happens, known_at, past_view, start_view}

-- ---- each of a list

each_set : {A : Type 0} (P : A → Type 0) (xs : List A) (i : ℕ) (x : A) → P x → Each P xs → Each P (slice_set xs i x)
each_set P [] i x h k = tt
each_set P (y ∷ ys) zero x h k = (h, k.1)
each_set P (y ∷ ys) (suc i) x h k = (k.0, each_set P ys i x h k.1)

-- an element, or the one for none
each_or : {A : Type 0} (P : A → Type 0) (xs : List A) (i : ℕ) (d : A) → i < length xs → Each P xs → P (slice_index_or xs i d)
each_or P [] i d l h = absurd (omega arith)
each_or P (x ∷ xs) zero d l h = h.0
each_or P (x ∷ xs) (suc i) d l h = each_or P xs i d (omega arith) h.1

-- ---- what an accept merges

module _ (tags : Declarations) (names : List TaskName) (sound : Sound tags) where
  abbrev len : ℕ
  len = bytes tags

  abbrev count : ℕ
  count = length names

  abbrev Fits : Book → Type 0
  Fits b = IsBook len count b

  accepted_fits : (n lane r : ℕ) (b c : Book) (command : AcceptCommand) → accept_in (scope_of tags names n b) lane r command.edits b ≡ Ok c → Fits b → Fits c
  accepted_fits n lane r b c command h fits =
      let parts = accepted_parts (scope_of tags names n b) lane r command.edits b c h in
      let source = source_with (scope_of tags names n b) lane r command.edits b parts.0 in
      let text : IsText len count (record (routine_at b.merged r) { source = source; checked = parts.1 }) = record {
        executable = checked_ready checked_lies (scope_of tags names n b) source parts.1 sound parts.3;
        tasks = checked_know_tasks (scope_of tags names n b) source parts.1 parts.3;
      } in
      subst Fits parts.2 (record { base = fits.base; merged = each_set (IsText len count) b.merged r _ text fits.merged; many = length-set b.merged r _ ∙ fits.many; main = fits.main })

  -- a change that keeps what fits
  abbrev KeepsFit : (Book → Result Book EditFault) → Type 0
  KeepsFit change = (b c : Book) → change b ≡ Ok c → Fits b → Fits c

  test_fits : KeepsFit test
  test_fits b c h fits = go b.testing h
    where
      go : (t : Bool) → test (record b { testing = t }) ≡ Ok c → Fits c
      go true h = err_not_ok _ c h
      go false h = subst Fits (ok_inj _ c h) (record { base = fits.base; merged = fits.merged; many = fits.many; main = fits.main })

  untest_fits : KeepsFit untest
  untest_fits b c h fits = go b.testing h
    where
      go : (t : Bool) → untest (record b { testing = t }) ≡ Ok c → Fits c
      go true h = subst Fits (ok_inj _ c h) (record { base = fits.base; merged = fits.merged; many = fits.many; main = fits.main })
      go false h = err_not_ok _ c h

  assemble_fits : KeepsFit assemble
  assemble_fits b c h fits = subst Fits (ok_inj _ c h) (record { base = fits.merged; merged = fits.merged; many = refl; main = (let e = fits.many in let l = fits.main in omega arith) })

  cancel_fits : KeepsFit cancel
  cancel_fits b c h fits = subst Fits (ok_inj _ c h) (record { base = fits.base; merged = fits.base; many = refl; main = fits.main })

  -- ---- all books

  set_fits : (books : List Book) (n : ℕ) (b : Book) → (Fits (book_at books n) → Fits b) → Each Fits books → Each Fits (slice_set books n b)
  set_fits [] n b k h = tt
  set_fits (x ∷ xs) zero b k h = (k h.0, h.1)
  set_fits (x ∷ xs) (suc n) b k h = (h.0, set_fits xs n b k h.1)

  changed_fits : (change : Book → Result Book EditFault) (books : List Book) (lane : ℕ) (name : List ℕ) (e : Edited) → KeepsFit change → IsChanged change books lane name e → Each Fits books → Each Fits e.books
  changed_fits change books lane name e keeps x h =
      subst (λ (y : Edited). Each Fits y.books) x.result (set_fits books x.number x.book (keeps (book_at books x.number) x.book x.changed) h)

  edit_fits : (books : List Book) (lane : ℕ) (a : Action) (e : Edited) → edit tags names books lane a ≡ Some (Ok e) → Each Fits books → Each Fits e.books
  edit_fits books lane (action.Accept c) e k h =
      let x = is_accepted tags names books lane c e (cc k) in
      subst (λ (y : Edited). Each Fits y.books) x.result (set_fits books x.number x.book (accepted_fits x.number lane x.routine (book_at books x.number) x.book c x.accepted) h)
  edit_fits books lane (action.Test n) e k h = changed_fits test books lane n e test_fits (is_changed test books lane n e (cc k)) h
  edit_fits books lane (action.Untest n) e k h = changed_fits untest books lane n e untest_fits (is_changed untest books lane n e (cc k)) h
  edit_fits books lane (action.Assemble n) e k h = changed_fits assemble books lane n e assemble_fits (is_changed assemble books lane n e (cc k)) h
  edit_fits books lane (action.Cancel n) e k h = changed_fits cancel books lane n e cancel_fits (is_changed cancel books lane n e (cc k)) h
  edit_fits books lane _ e k h = absurd (cc k)

  act_fits : (s : State) (lane : ℕ) (a : Action) → s.plan.tags ≡ tags → s.plan.names ≡ names → ActsOnBooks s lane a → Each Fits s.books → Each Fits (act s lane a).state.books
  act_fits s lane a et en (Keeps none same) h = subst (Each Fits) (sym same) h
  act_fits s lane a et en (Edits (Err f) is acts) h = subst (Each Fits) (sym (ap (λ x. x.state.books) acts)) h
  act_fits s lane a et en (Edits (Ok e) is acts) h =
      let named : edit tags names s.books lane a ≡ Some (Ok e) = ap (λ (d : Declarations). edit d names s.books lane a) (sym et) ∙ (ap (λ (ts : List TaskName). edit s.plan.tags ts s.books lane a) (sym en) ∙ is) in
      subst (Each Fits) (sym (ap (λ x. x.state.books) acts)) (edit_fits s.books lane a e named h)

  event_fits : (s : State) (e : Event) → s.plan.tags ≡ tags → s.plan.names ≡ names → Each Fits s.books → Each Fits (step s e).state.books
  event_fits s events.Cpu et en h = subst (Each Fits) (sym (step_books s)) h
  event_fits s events.Tick et en h = subst (Each Fits) (sym (tick_books s)) h
  event_fits s (events.Act lane a) et en h = act_fits s lane a et en (acts_on_books s lane a) h

-- ---- a valid project

module _ (p : Project) (valid : IsValidProject p) where
  abbrev size : ℕ
  size = length p.image

  abbrev many : ℕ
  many = length p.tasks

  abbrev FitsHere : Book → Type 0
  FitsHere b = IsBook size many b

  texts_fit : (rs : List RoutineText) → Each (λ r. AreExecutable size r.checked) rs → Each (λ r. KnowsTasks many r.checked) rs → Each (IsText size many) rs
  texts_fit [] h k = tt
  texts_fit (r ∷ rs) h k = (record { executable = h.0; tasks = k.0 }, texts_fit rs h.1 k.1)

  books_fit : (qs : List ProgramText) → Each (IsExecutableOver size) qs → EachProgramHas (KnowsTasks many) qs → list_all (has_targets p) qs ≡ true → Each FitsHere (map book_of qs)
  books_fit [] h k t = tt
  books_fit (q ∷ qs) h k t =
      let a = and_parts (has_targets p q) (list_all (has_targets p) qs) t in
      let b = and_parts (nat_lt q.main (length q.routines)) _ a.0 in
      let texts = texts_fit q.routines h.0 k.0 in
      (record { base = texts; merged = texts; many = refl; main = ltb-true q.main (length q.routines) b.0 }, books_fit qs h.1 k.1 a.1)

  start_fits : Each FitsHere (start p).books
  start_fits = books_fit p.programs valid.operands (tasks_of checked_know_tasks p valid.task_lists.names valid.rungs) valid.targets

  -- by the tags and the names of the plan, which are as large as the image and as many as the tasks
  next_fits : (s : State) (e : Event) → Known p s → Each FitsHere s.books → Each FitsHere (step s e).state.books
  next_fits s e known h =
      let image : bytes p.tags ≡ size = sym valid.tags.image in
      let names : length p.names ≡ many = valid.task_lists.names in
      let plan = known.sizes.same_plan in
      subst (λ (i : ℕ). Each (IsBook i many) (step s e).state.books) image (subst (λ (i : ℕ). Each (IsBook (bytes p.tags) i) (step s e).state.books) names
      (event_fits p.tags p.names valid.tags.sound s e (ap (λ (x : Plan). x.tags) plan) (ap (λ (x : Plan). x.names) plan)
      (subst (λ (i : ℕ). Each (IsBook (bytes p.tags) i) s.books) (sym names) (subst (λ (i : ℕ). Each (IsBook i many) s.books) (sym image) h))))

  from_fits : (s : State) (es : List Event) → IsReached p s → Each FitsHere s.books → Each FitsHere (run_from s es).books
  from_fits s [] r h = h
  from_fits s (e ∷ es) r h = from_fits (step s e).state es (reached_next p s e r) (next_fits s e (known_at p s r) h)

  -- ---- what is selected

  checked_of : (rs : List RoutineText) → Each (IsText size many) rs → Each (AreExecutable size) (map (λ r. r.checked) rs) × Each (KnowsTasks many) (map (λ r. r.checked) rs)
  checked_of [] h = (tt, tt)
  checked_of (r ∷ rs) h = let k = checked_of rs h.1 in ((h.0.executable, k.0), (h.0.tasks, k.1))

  pub selected_runs : (b : Book) → FitsHere b → IsProgram size many (selected b)
  selected_runs b h = go b.testing
    where
      of : (rs : List RoutineText) → Each (IsText size many) rs → b.main < length rs → IsProgram size many (record { routines = map (λ r. r.checked) rs; main = b.main })
      of rs t l = let k = checked_of rs t in record { executable = k.0; tasks = k.1; main = (let e = length-map rs (λ (r : RoutineText). r.checked) in omega arith) }

      go : (t : Bool) → IsProgram size many (selected (record b { testing = t }))
      go true = of b.merged h.merged (let e = h.many in let l = h.main in omega arith)
      go false = of b.base h.base h.main

  -- ---- scans

  abbrev ScanRuns : Option Scan → Type 0
  ScanRuns o = IfSome o (λ scan. IsProgram size many scan.rungs)

  pub books_at : (s : State) → IsReached p s → Each FitsHere s.books
  books_at s r = subst (λ (x : State). Each FitsHere x.books) r.is (from_fits (start p) r.journal (reached_start p) start_fits)

  -- a program to come is one of the books
  there : (s : State) (t : ℕ) → IsReached p s → (u : TaskState) → state_of s.table t ≡ Some u → next_program s t (progress_of s t) < length s.books
  there s t r u up =
      let at = subst (λ (x : State). IsAtProgram p x t) r.is (tasks_are_at_programs p r.journal t valid) in
      let l = at.known (progress_of s t).ended (at.to_come u up) in
      let z = (known_at p s r).sizes.names in
      let e = sym (length-map s.books (λ (b : Book). b.name)) ∙ (ap (λ (xs : List (List ℕ)). length xs) z ∙ length-map p.programs (λ (q : ProgramText). q.name)) in
      omega arith

  -- only a begin needs it
  scan_by : (s : State) (e : Event) (t : ℕ) (c : Change) → IsReached p s → Makes s e t c → ScanRuns (progress_of s t).scan → ScanRuns (changed c (view_of s t)).scan
  scan_by s e t Stays r m h = h
  scan_by s e t (Rotates n) r m h = h
  scan_by s e t GoesDown r m h = tt
  scan_by s e t (ComesUp now rank) r m h = tt
  scan_by s e t (Restarts now rank) r m h = tt
  scan_by s e t (Begins scan) r m h =
      let u = chosen_up s.table t m.0.chosen in
      let n = next_program s t (progress_of s t) in
      subst (λ (x : Scan). IsProgram size many x.rungs) (sym m.2) (selected_runs (book_at s.books n) (each_or FitsHere s.books n no_book (there s t r u.0 u.1) (books_at s r)))
  scan_by s e t (Goes mark scan) r m h = subst (IsProgram size many) (sym m.1.rungs) (subst ScanRuns m.1.was h)
  scan_by s e t Ends r m h = tt

  scan_after : (s : State) (e : Event) (t : ℕ) → IsReached p s → ScanRuns (progress_of s t).scan → ScanRuns (progress_of (step s e).state t).scan
  scan_after s e t r h =
      let known = known_at p s r in
      let x = (step s e).state in
      let sizes = event_keeps_sizes p s e known.sizes in
      elim (cases_lt t many) [
        | inl l ↦ (let y = happens p s e t known l in subst ScanRuns (sym (ap (λ (v : TaskView). v.scan) y.view)) (scan_by s e t y.change r y.makes h))
        | inr g ↦ subst ScanRuns (sym (ap (λ (v : TaskView). v.scan) (past_view x t (let a = sizes.states in omega arith) (let a = sizes.progresses in omega arith)))) tt
      ]

  scan_from : (s : State) (es : List Event) (t : ℕ) → IsReached p s → ScanRuns (progress_of s t).scan → ScanRuns (progress_of (run_from s es) t).scan
  scan_from s [] t r h = h
  scan_from s (e ∷ es) t r h = scan_from (step s e).state es t (reached_next p s e r) (scan_after s e t r h)

  pub scan_runs : (journal : List Event) (t : ℕ) → ScanRuns (progress_of (run p journal) t).scan
  scan_runs journal t = scan_from (start p) journal t (reached_start p) (subst ScanRuns (sym (ap (λ (v : TaskView). v.scan) (start_view p t))) tt)

pub books_can_run : BooksCanRun
books_can_run p journal valid = books_at p valid (run p journal) (record { journal = journal; is = refl })

pub scans_can_run : ScansCanRun
scans_can_run p journal t scan valid is = subst (λ (o : Option Scan). IfSome o (λ x. IsProgram (length p.image) (length p.tasks) x.rungs)) is (scan_runs p valid journal t)
