-- A scan's rungs are those that the accepted commands select at its begin.
use Rattle.std.proofs.Common.{◌≡◌, ℕ, ◌≤◌, inl, inr, Bool, true, false, cond, List, [], ◌∷◌, length, Option, Some, None, refl, sym, ◌∙◌, ap, subst, arith}
use Rattle.std.specs.Prelude.{Result, Ok, Err, IfSome, fold}
use Rattle.std.proofs.lemmas.Bool.{cases_lt}
use Rattle.std.proofs.lemmas.List.{get_or_past}
use Rattle.spec_scan.specs.Position.{ProgramRungs}
use Rattle.spec_machine.specs.declared.event.Event.{Event}
use Rattle.spec_machine.specs.declared.event.Event.TheVariants as events
use Rattle.spec_machine.specs.declared.event.Action.{Action}
use Rattle.spec_machine.specs.declared.reply.EditFault.{EditFault}
use Rattle.spec_machine.specs.Edits.{Book, Edited, book_at, selected}
use Rattle.spec_machine.specs.Project.{Project}
use Rattle.spec_machine.specs.State.{State, Scan, Progress, no_progress, progress_of, start}
use Rattle.spec_machine.specs.Actions.{act}
use Rattle.spec_machine.specs.Machine.{step, run_from}
use Rattle.spec_schedule.specs.Stages.{stages_from, books_or, commanded, begins, selected_after, scan_in_progress, ScansKeepRungs, is_refusal}
use Rattle.spec_reach.proofs.Changes.{TaskView, view_of, Change, Stays, Rotates, GoesDown, ComesUp, Restarts, Begins, Goes, Ends, changed, begun_after, Makes, Known}
use Rattle.spec_reach.proofs.Books.{step_books, tick_books}
use Rattle.spec_reach.proofs.BookActions.{ActsOnBooks, Edits, Keeps, acts_on_books}
use Rattle.spec_reach.proofs.EditNames.{edit_is_taken}
use Rattle.spec_reach.proofs.Reached.{IsReached, reached_start, reached_next, happens, known_at, start_view}
use Rattle.spec_reach.proofs.Sizes.{event_keeps_sizes}

-- ---- the books

same_both : {A : Type 0} (b : Bool) (x : A) → cond b x x ≡ x
same_both true x = refl
same_both false x = refl

command_books : (s : State) (lane : ℕ) (a : Action) → ActsOnBooks s lane a → commanded s (step s (events.Act lane a)).answer s.books ≡ (act s lane a).state.books
command_books s lane a (Keeps none same) =
    ap (λ (o : Option (Result Edited EditFault)). cond (is_refusal (act s lane a).answer.reply) s.books (books_or s.books o)) none ∙ (same_both (is_refusal (act s lane a).answer.reply) s.books ∙ sym same)
command_books s lane a (Edits (Err f) is acts) =
    ap (λ (o : Option (Result Edited EditFault)). cond (is_refusal (act s lane a).answer.reply) s.books (books_or s.books o)) is
    ∙ (same_both (is_refusal (act s lane a).answer.reply) s.books ∙ ap (λ x. x.state.books) (sym acts))
command_books s lane a (Edits (Ok e) is acts) =
    ap (λ (o : Option (Result Edited EditFault)). cond (is_refusal (act s lane a).answer.reply) s.books (books_or s.books o)) is
    ∙ (ap (λ x. cond (is_refusal x.answer.reply) s.books e.books) acts ∙ (ap (λ (b : Bool). cond b s.books e.books) (edit_is_taken s.plan.tags s.plan.names s.books lane a e is) ∙ ap (λ x. x.state.books) (sym acts)))

event_books : (s : State) (e : Event) → commanded s (step s e).answer s.books ≡ (step s e).state.books
event_books s events.Cpu = sym (step_books s)
event_books s events.Tick = sym (tick_books s)
event_books s (events.Act lane a) = command_books s lane a (acts_on_books s lane a)

-- ---- the rungs of a task

-- the rungs of the last begin are those of the scan in progress
abbrev BegunIs : Option Scan → Option ProgramRungs → Type 0
BegunIs o begun = IfSome o (λ scan. begun ≡ Some scan.rungs)

begun_next : (s : State) (e : Event) (t : ℕ) (c : Change) (begun : Option ProgramRungs) → Makes s e t c → BegunIs (progress_of s t).scan begun → BegunIs (changed c (view_of s t)).scan (begun_after c s.books begun)
begun_next s e t Stays begun m h = h
begun_next s e t (Rotates n) begun m h = h
begun_next s e t GoesDown begun m h = tt
begun_next s e t (ComesUp now rank) begun m h = tt
begun_next s e t (Restarts now rank) begun m h = tt
begun_next s e t (Begins scan) begun m h = ap (λ (x : Scan). Some (selected (book_at s.books x.program))) m.2 ∙ ap (λ (x : Scan). Some x.rungs) (sym m.2)
begun_next s e t (Goes mark scan) begun m h =
    subst (λ (o : Option Scan). BegunIs o begun) m.1.was h ∙ ap (λ (x : ProgramRungs). Some x) (sym m.1.rungs)
begun_next s e t Ends begun m h = tt

-- the scan of a place that is no task
no_scan : (s : State) (t : ℕ) → length s.progress ≤ t → (progress_of s t).scan ≡ None
no_scan s t l = ap (λ (q : Progress). q.scan) (get_or_past s.progress t no_progress l)

scan_next : (p : Project) (s : State) (e : Event) (t : ℕ) (begun : Option ProgramRungs) → Known p s → BegunIs (progress_of s t).scan begun → BegunIs (progress_of (step s e).state t).scan (begins t (step s e).answer s.books begun)
scan_next p s e t begun known h =
    elim (cases_lt t (length p.tasks)) [
      | inl l ↦
          let x = happens p s e t known l in
          subst (λ (o : Option Scan). BegunIs o (begins t (step s e).answer s.books begun)) (sym (ap (λ (v : TaskView). v.scan) x.view))
          (subst (BegunIs (changed x.change (view_of s t)).scan) (sym (x.begun s.books begun)) (begun_next s e t x.change begun x.makes h))
      | inr g ↦ subst (λ (o : Option Scan). BegunIs o (begins t (step s e).answer s.books begun)) (sym (no_scan (step s e).state t (let a = (event_keeps_sizes p s e known.sizes).progresses in omega arith))) tt
    ]

along : (p : Project) (t : ℕ) (s : State) (es : List Event) (begun : Option ProgramRungs) → IsReached p s → BegunIs (progress_of s t).scan begun → BegunIs (scan_in_progress (run_from s es) t) (fold (selected_after t) (record { books = s.books; begun = begun }) (stages_from s es)).begun
along p t s [] begun r h = h
along p t s (e ∷ es) begun r h =
    let next = (step s e).state in
    let b = begins t (step s e).answer s.books begun in
    subst (λ (books : List Book). BegunIs (scan_in_progress (run_from next es) t) (fold (selected_after t) (record { books = books; begun = b }) (stages_from next es)).begun) (sym (event_books s e))
    (along p t next es b (reached_next p s e r) (scan_next p s e t begun (known_at p s r) h))

start_scan : (p : Project) (t : ℕ) → (progress_of (start p) t).scan ≡ None
start_scan p t = ap (λ (v : TaskView). v.scan) (start_view p t)

pub scans_keep_rungs : (p : Project) → ScansKeepRungs p
scans_keep_rungs p journal t = along p t (start p) journal None (reached_start p) (subst (λ (o : Option Scan). BegunIs o None) (sym (start_scan p t)) tt)
