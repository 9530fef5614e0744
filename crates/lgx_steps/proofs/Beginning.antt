-- A task begins its next program.
use Rattle.std.proofs.Common.{◌≡◌, ℕ, ◌<◌, List, [], ◌∷◌, length, get_or, set, map, Bool, true, false, if◌then◌else◌, Some, None, refl, sym, ap, ◌∙◌, subst, length-set}
use Rattle.std.specs.Prelude.{slice_index}
use Rattle.std.proofs.lemmas.List.{get_or-set_same, get_or_default, length-map}
use Rattle.std.specs.List.{AllByRecursion as Each}
use Rattle.spec_language.specs.Declarations.{bytes}
use Rattle.spec_scan.specs.Executable.{AreExecutable, IsExecutableProgram}
use Rattle.spec_scan.specs.KnownTasks.{KnowsTasks, ProgramKnowsTasks}
use Rattle.spec_scan.specs.Position.{ProgramRungs, Rungs, first_position}
use Rattle.spec_machine.specs.declared.answer.Moment.{Moment}
use Rattle.spec_machine.specs.declared.answer.What.TheVariants as what
use Rattle.spec_machine.specs.declared.answer.Mark.TheVariants as mark
use Rattle.spec_machine.specs.Project.{RoutineText}
use Rattle.spec_machine.specs.Edits.{Book, no_book, book_at, selected, selected_texts, selected_number}
use Rattle.spec_machine.specs.State.{State, Progress, progress_of, programs_of}
use Rattle.spec_machine.specs.ProcessorStep.{begin_program, next_program, new_scan}
use Rattle.lgx_prog.specs.FlatProgram.{IsFlatProgram}
use Rattle.lgx_engine.specs.Views.{PositionView}
use Rattle.lgx_engine.specs.Represents.{RepresentsPosition as RepresentsPosition}
use Rattle.lgx_versions.specs.declared.slots.Version.{Version}
use Rattle.lgx_edit.specs.EditsView.{EditsView, books, holds, held_at, HoldsNow}
use Rattle.lgx_steps.specs.declared.parts.Scan.{Scan as KeptScan}
use Rattle.lgx_steps.specs.declared.parts.Progress.{Progress as KeptProgress}
use Rattle.lgx_steps.specs.PartsView.{PartsView}
use Rattle.lgx_steps.specs.Plans.{AreReady, IsReadyBook}
use Rattle.lgx_steps.specs.Represents.{RepresentsState, RepresentsTask, held_in}
use Rattle.lgx_steps.specs.Gives.{ViewGives}
use Rattle.lgx_steps.proofs.Elements.{each-at}
use Rattle.lgx_steps.proofs.Tasks.{HoldsElsewhere, set_elsewhere, without-scan, tasks-set}
use Rattle.lgx_steps.proofs.Reading.{many-books, many-firsts, in-plan, task-read, next-known}
use Rattle.lgx_steps.proofs.States.{with-progress, with-firsts}

-- ---- the selected rungs can be executed

abbrev checked_of : List RoutineText → List Rungs
checked_of rs = map (λ r. r.checked) rs

abbrev texts_if : Bool → Book → List RoutineText
texts_if x b = if x then b.merged else b.base

each-checked : (P : Rungs → Type 0) (rs : List RoutineText) → Each (λ r. P r.checked) rs → Each P (checked_of rs)
each-checked P [] h = tt
each-checked P (r ∷ rs) (here, others) = (here, each-checked P rs others)

ready-selected : (len tasks n : ℕ) (b : Book) → IsReadyBook len tasks n b → AreReady len tasks (selected_texts b)
ready-selected len tasks n b h = go b.testing
  where
    go : (x : Bool) → AreReady len tasks (texts_if x b)
    go true = h.merged
    go false = h.base

pub selected-executable : (len tasks n : ℕ) (b : Book) → IsReadyBook len tasks n b → IsExecutableProgram len (selected b)
selected-executable len tasks n b h = each-checked (AreExecutable len) (selected_texts b) (ready-selected len tasks n b h).executable

pub selected-knows : (len tasks n : ℕ) (b : Book) → IsReadyBook len tasks n b → ProgramKnowsTasks tasks (selected b)
selected-knows len tasks n b h = each-checked (KnowsTasks tasks) (selected_texts b) (ready-selected len tasks n b h).know

-- ---- the next program

module _ (n : ℕ) (v : PartsView) (s : State) (h : RepresentsState n v s) (t i : ℕ) (l : t < length v.progress) (x d : KeptProgress) (read : x ≡ get_or v.progress t d) (next : i ≡ next_program s t (progress_of s t)) (scan : x.scan ≡ None) where
  pub known : i < length v.book
  known = subst (λ k. k < length v.book) (sym next) (next-known n v s h t l)

  pub free : held_at v.book i ≡ None
  free = ap (λ k. held_at v.book k) next ∙ without-scan (bytes s.plan.tags) (length s.plan.schedule) (holds v.book) (programs_of s t) x (progress_of s t) (task-read n v s h t l x d read) scan

  -- the book of the next program
  book-ready : IsReadyBook (bytes s.plan.tags) (length s.plan.schedule) n (book_at s.books i)
  book-ready = each-at (IsReadyBook (bytes s.plan.tags) (length s.plan.schedule) n) s.books i no_book h.sane.books (subst (λ k. i < k) (many-books n v s h ∙ sym h.sane.programs) known)

  pub held-now : (book : List EditsView) (version : Version) → holds book ≡ set (holds v.book) i (Some version) → held_at book i ≡ Some version
  held-now book version e = ap (λ H. held_in H i) e ∙ get_or-set_same (holds v.book) i (Some version) None (subst (λ k. i < k) (sym (length-map v.book (λ (e : EditsView). e.versions.roles.held))) known)

  -- the progress with the new scan
  pub begun : (book : List EditsView) (number : ℕ) (first df : Bool) (place : PositionView) (moment : Moment) (now : HoldsNow i number v.book book) → books book ≡ books v.book → number ≡ selected_number (book_at (books v.book) i) → first ≡ get_or v.firsts i df
      → ((version : Version) (rungs : ProgramRungs) → held_at book i ≡ Some version → IsFlatProgram version.program rungs → RepresentsPosition version.program place (first_position rungs))
      → moment ≡ record { what = what.Began t i number; mark = mark.Plain; fault = None }
      → ViewGives n (record v { progress = set v.progress t (record x { scan = Some (record { program = i; first = first }); position = place }); firsts = set v.firsts i false; book = book }) moment (begin_program s t (progress_of s t) (next_program s t (progress_of s t)))
  begun book number first df place moment now same is_number is_first restarts is_moment =
      let starts : RepresentsPosition now.version.program place (first_position (selected (book_at s.books i))) = restarts now.version (selected (book_at s.books i)) (held-now book now.version now.holds) (subst (λ (bs : List Book). IsFlatProgram now.version.program (selected (book_at bs i))) h.books now.runs) in
      let len = bytes s.plan.tags in
      let tasks = length s.plan.schedule in
      let b : Book = book_at s.books i in
      let r : RepresentsTask (holds v.book) len tasks (programs_of s t) x (progress_of s t) = task-read n v s h t l x d read in
      let k : KeptScan = record { program = i; first = first } in
      let y : KeptProgress = record x { scan = Some k; position = place } in
      let p : Progress = record (progress_of s t) { scan = Some (new_scan s i) } in
      let there : i < length v.firsts = subst (λ j. i < j) (many-books n v s h ∙ sym (many-firsts n v s h)) known in
      let first_is : first ≡ get_or s.firsts i false = is_first ∙ (get_or_default v.firsts i df false there ∙ ap (λ fs. get_or fs i false) h.firsts) in
      let flat : IsFlatProgram now.version.program (selected b) = subst (λ (bs : List Book). IsFlatProgram now.version.program (selected (book_at bs i))) h.books now.runs in
      let elsewhere : HoldsElsewhere (slice_index (programs_of s t) (progress_of s t).ended) (holds v.book) (holds book) =
      subst (λ j. HoldsElsewhere j (holds v.book) (holds book)) next (subst (λ H. HoldsElsewhere i (holds v.book) H) (sym now.holds) (set_elsewhere (holds v.book) i (Some now.version))) in
      let held : held_in (holds book) (slice_index (programs_of s t) (progress_of s t).ended) ≡ Some now.version = subst (λ j. held_in (holds book) j ≡ Some now.version) next (held-now book now.version now.holds) in
      let new : RepresentsTask (holds book) len tasks (programs_of s t) y p = record {
        ended = r.ended;
        flags = r.flags;
        left = r.left;
        scan = record {
          program = refl;
          is_next = next;
          first = first_is;
          version = now.version;
          held_is = held;
          runs = record { program = flat; executable = selected-executable len tasks n b book-ready; position = starts; copy = tt; returns = (tt, tt) };
          know = selected-knows len tasks n b book-ready;
        };
        others = λ j lj ne. elsewhere.same (slice_index (programs_of s t) j) (λ e. ne (h.sane.plan.once t t j (progress_of s t).ended lj r.left e).1) ∙ r.others j lj ne;
      } in
      let a = with-progress n v s h (set v.progress t y) (set s.progress t p) book (length-set v.progress t y) (length-set s.progress t p) same
      (tasks-set (holds v.book) (holds book) len s.plan.schedule v.progress s.progress t (progress_of s t).ended y p h.tasks h.sane.plan.once h.progresses h.sane.progresses (in-plan n v s h t l) r.left elsewhere new) in
      let b' = with-firsts n (record v { progress = set v.progress t y; book = book }) (record s { progress = set s.progress t p }) a (set v.firsts i false) (set s.firsts i false) (ap (λ fs. set fs i false) h.firsts) (length-set s.firsts i false) in
      let z : PartsView = record v { progress = set v.progress t y; firsts = set v.firsts i false; book = book } in
      let told : moment ≡ record { what = what.Began t i (selected_number b); mark = mark.Plain; fault = None } =
      is_moment ∙ ap (λ j. record { what = what.Began t i j; mark = mark.Plain; fault = None }) (is_number ∙ ap (λ (bs : List Book). selected_number (book_at bs i)) h.books) in
      let g : ViewGives n z moment (begin_program s t (progress_of s t) i) = record { answers = told; represents = b' } in
      subst (λ j. ViewGives n z moment (begin_program s t (progress_of s t) j)) next g
