-- Each event keeps what a book's merged rungs are made of.
use Rattle.std.proofs.Common.{◌≡◌, ℕ, zero, suc, ◌<◌, inl, inr, Bool, true, false, List, [], ◌∷◌, ◌++◌, length, map, Option, Some, refl, sym, ◌∙◌, ap, subst, arith, length-set}
use Rattle.std.specs.Prelude.{Result, Ok, Err, filter_map, slice_set}
use Rattle.std.specs.List.{AllByRecursion as Each, position_from}
use Rattle.std.proofs.lemmas.Bool.Decides.{eqb_tells}
use Rattle.std.proofs.lemmas.List.{append-nil, get_or-set_same, get_or-set_other}
use Rattle.std.proofs.lemmas.List.Elements.{filter_map-append}
use Rattle.lgx_num.specs.Name.{same}
use Rattle.lgx_rung.specs.Tree.{Source}
use Rattle.spec_base.specs.FirstCause.{◌>>=◌}
use Rattle.spec_base.proofs.Binds.{ok_inj, err_not_ok, bind_ok, some_or_ok}
use Rattle.spec_language.specs.Declarations.{Declarations}
use Rattle.spec_language.specs.Checked.{CheckScope}
use Rattle.spec_language.specs.declared.names.TaskName.{TaskName}
use Rattle.spec_machine.specs.declared.event.Event.{Event}
use Rattle.spec_machine.specs.declared.event.Event.TheVariants as events
use Rattle.spec_machine.specs.declared.event.Action.{Action}
use Rattle.spec_machine.specs.declared.event.Action.TheVariants as action
use Rattle.spec_machine.specs.declared.event.RungEdit.{RungEdit}
use Rattle.spec_machine.specs.declared.reply.EditFault.{EditFault}
use Rattle.spec_machine.specs.declared.reply.EditFault.TheVariants.{E2}
use Rattle.spec_machine.specs.declared.reply.Reply.TheVariants.{Version}
use Rattle.spec_machine.specs.Commands.{AcceptCommand}
use Rattle.spec_machine.specs.Edits.{Change, Book, book_of, no_book, book_at, no_routine, routine_at, change_in, changes_in, merged, with_changes, Edited, edit, accept, accept_in, program_named, routine_named, scope_of, test, untest, assemble, cancel}
use Rattle.spec_machine.specs.Actions.{act}
use Rattle.spec_machine.specs.Machine.{step, run_from, run}
use Rattle.spec_machine.specs.Project.{Project, ProgramText, RoutineText}
use Rattle.spec_machine.specs.State.{State, start}
use Rattle.spec_scan.specs.Position.{Rungs}
use Rattle.spec_reach.proofs.BookActions.{ActsOnBooks, Edits, Keeps, acts_on_books}
use Rattle.spec_reach.proofs.Books.{step_books, tick_books}
use Rattle.spec_reach.proofs.EditNames.{source_with, accepted_parts, IsChanged, is_changed}
use Rattle.spec_legal.specs.Merged.{RunsKeepMerged}
use Rattle.spec_legal.proofs.EditByEdit.{merges-edits}
use Rattle.spec_legal.proofs.Unchanged.{merged-none, edits_of, changes-here, changes-elsewhere, first-within}

-- the merged rungs are of as many routines as the base
record Fits (b : Book) : Type 0 where
  many : length b.merged ≡ length b.base
  texts : (r : ℕ) → (routine_at b.merged r).source ≡ merged (routine_at b.base r).source (changes_in b r)

-- ---- one book

-- without an accepted edit the two are the same
unedited : (b : Book) → b.merged ≡ b.base → b.accepted ≡ [] → Fits b
unedited b same none = record {
  many = ap (λ (rs : List RoutineText). length rs) same;
  texts = λ r.
      ap (λ (rs : List RoutineText). (routine_at rs r).source) same
      ∙ (sym (merged-none (routine_at b.base r).source)
      ∙ ap (λ es. merged (routine_at b.base r).source (filter_map (change_in r) es)) (sym none));
}

-- an accept puts its changes after those of its routine
module _ (lane r : ℕ) (changes : List Change) (rungs : Rungs) (b : Book) (l : r < length b.base) (fits : Fits b) where
  abbrev source : List Source
  source = merged (routine_at b.base r).source (changes_in b r ++ changes)

  abbrev after : Book
  after = with_changes lane r changes source rungs b

  abbrev text : RoutineText
  text = record (routine_at b.merged r) { source = source; checked = rungs }

  more : (k : ℕ) → changes_in after k ≡ changes_in b k ++ filter_map (change_in k) (edits_of r changes)
  more k = filter_map-append (change_in k) b.accepted (edits_of r changes)

  here : (routine_at after.merged r).source ≡ merged (routine_at b.base r).source (changes_in after r)
  here =
      ap (λ (q : RoutineText). q.source) (get_or-set_same b.merged r text no_routine (let e = fits.many in omega arith))
      ∙ sym (ap (merged (routine_at b.base r).source) (more r ∙ ap (λ (cs : List Change). changes_in b r ++ cs) (changes-here r changes)))

  elsewhere : (k : ℕ) → (r ≡ k → ⊥) → (routine_at after.merged k).source ≡ merged (routine_at b.base k).source (changes_in after k)
  elsewhere k other =
      ap (λ (q : RoutineText). q.source) (get_or-set_other b.merged r k text no_routine (λ e. other (sym e)))
      ∙ (fits.texts k ∙ sym (ap (merged (routine_at b.base k).source) (more k ∙ (ap (λ (cs : List Change). changes_in b k ++ cs) (changes-elsewhere r k changes other) ∙ append-nil (changes_in b k)))))

  with-changes : Fits after
  with-changes = record {
    many = length-set b.merged r text ∙ fits.many;
    texts = λ k. elim (eqb_tells r k) [
      | inl same ↦ subst (λ j. (routine_at after.merged j).source ≡ merged (routine_at b.base j).source (changes_in after j)) same.1 here
      | inr other ↦ elsewhere k other.1
    ];
  }

abbrev KeepsFit : (Book → Result Book EditFault) → Type 0
KeepsFit change = (b c : Book) → change b ≡ Ok c → Fits b → Fits c

test-fits : KeepsFit test
test-fits b c h fits = go b.testing h
  where
    go : (t : Bool) → test (record b { testing = t }) ≡ Ok c → Fits c
    go true h = err_not_ok _ c h
    go false h = subst Fits (ok_inj _ c h) (record { many = fits.many; texts = fits.texts })

untest-fits : KeepsFit untest
untest-fits b c h fits = go b.testing h
  where
    go : (t : Bool) → untest (record b { testing = t }) ≡ Ok c → Fits c
    go true h = subst Fits (ok_inj _ c h) (record { many = fits.many; texts = fits.texts })
    go false h = err_not_ok _ c h

assemble-fits : KeepsFit assemble
assemble-fits b c h fits = subst Fits (ok_inj _ c h) (unedited _ refl refl)

cancel-fits : KeepsFit cancel
cancel-fits b c h fits = subst Fits (ok_inj _ c h) (unedited _ refl refl)

-- ---- all books

set-fits : (books : List Book) (n : ℕ) (b : Book) → (Fits (book_at books n) → Fits b) → Each Fits books → Each Fits (slice_set books n b)
set-fits [] n b k h = tt
set-fits (x ∷ xs) zero b k h = (k h.0, h.1)
set-fits (x ∷ xs) (suc n) b k h = (h.0, set-fits xs n b k h.1)

changed-fits : (change : Book → Result Book EditFault) (books : List Book) (lane : ℕ) (name : List ℕ) (e : Edited) → KeepsFit change → IsChanged change books lane name e → Each Fits books → Each Fits e.books
changed-fits change books lane name e keeps x h =
    subst (λ (y : Edited). Each Fits y.books) x.result (set-fits books x.number x.book (keeps (book_at books x.number) x.book x.changed) h)

module _ (tags : Declarations) (names : List TaskName) (books : List Book) (lane : ℕ) (command : AcceptCommand) (h : Each Fits books) where
  abbrev scope_at : ℕ → CheckScope
  scope_at n = scope_of tags names n (book_at books n)

  abbrev from_book : ℕ → Book → Result Edited EditFault
  from_book n b = Ok (record { books = slice_set books n b; reply = Version b.newest })

  abbrev from_routine : ℕ → ℕ → Result Edited EditFault
  from_routine n r = accept_in (scope_at n) lane r command.edits (book_at books n) >>= from_book n

  abbrev from_program : ℕ → Result Edited EditFault
  from_program n = routine_named (book_at books n) command.routine >>= from_routine n

  accepted : (n r : ℕ) (c : Book) → r < length (book_at books n).base → accept_in (scope_at n) lane r command.edits (book_at books n) ≡ Ok c → Fits (book_at books n) → Fits c
  accepted n r c l is fits =
      let parts = accepted_parts (scope_at n) lane r command.edits (book_at books n) c is in
      subst Fits parts.2 (with-changes lane r parts.0 parts.1 (book_at books n) l fits)

  accept-fits : (e : Edited) → accept tags names books lane command ≡ Ok e → Each Fits e.books
  accept-fits e is =
      let h1 = bind_ok (program_named books command.program) from_program e is in
      let b = book_at books h1.0 in
      let h2 = bind_ok (routine_named b command.routine) (from_routine h1.0) e h1.2 in
      let h3 = bind_ok (accept_in (scope_at h1.0) lane h2.0 command.edits b) (from_book h1.0) e h2.2 in
      let found = some_or_ok (position_from (λ r. same r.name command.routine) 0 b.base) E2 h2.0 h2.1 in
      let l = first-within (λ r. same r.name command.routine) 0 b.base h2.0 found in
      subst (λ (y : Edited). Each Fits y.books) (ok_inj _ e h3.2)
      (set-fits books h1.0 h3.0 (accepted h1.0 h2.0 h3.0 (omega arith) h3.1) h)

edit-fits : (tags : Declarations) (names : List TaskName) (books : List Book) (lane : ℕ) (a : Action) (e : Edited) → edit tags names books lane a ≡ Some (Ok e) → Each Fits books → Each Fits e.books
edit-fits tags names books lane (action.Accept c) e k h = accept-fits tags names books lane c h e (cc k)
edit-fits tags names books lane (action.Test n) e k h = changed-fits test books lane n e test-fits (is_changed test books lane n e (cc k)) h
edit-fits tags names books lane (action.Untest n) e k h = changed-fits untest books lane n e untest-fits (is_changed untest books lane n e (cc k)) h
edit-fits tags names books lane (action.Assemble n) e k h = changed-fits assemble books lane n e assemble-fits (is_changed assemble books lane n e (cc k)) h
edit-fits tags names books lane (action.Cancel n) e k h = changed-fits cancel books lane n e cancel-fits (is_changed cancel books lane n e (cc k)) h
edit-fits tags names books lane _ e k h = absurd (cc k)

-- ---- a run

act-fits : (s : State) (lane : ℕ) (a : Action) → ActsOnBooks s lane a → Each Fits s.books → Each Fits (act s lane a).state.books
act-fits s lane a (Keeps none same) h = subst (Each Fits) (sym same) h
act-fits s lane a (Edits (Err f) is acts) h = subst (Each Fits) (sym (ap (λ x. x.state.books) acts)) h
act-fits s lane a (Edits (Ok e) is acts) h = subst (Each Fits) (sym (ap (λ x. x.state.books) acts)) (edit-fits s.plan.tags s.plan.names s.books lane a e is h)

event-fits : (s : State) (e : Event) → Each Fits s.books → Each Fits (step s e).state.books
event-fits s events.Cpu h = subst (Each Fits) (sym (step_books s)) h
event-fits s events.Tick h = subst (Each Fits) (sym (tick_books s)) h
event-fits s (events.Act lane a) h = act-fits s lane a (acts_on_books s lane a) h

from-fits : (s : State) (es : List Event) → Each Fits s.books → Each Fits (run_from s es).books
from-fits s [] h = h
from-fits s (e ∷ es) h = from-fits (step s e).state es (event-fits s e h)

start-fits : (qs : List ProgramText) → Each Fits (map book_of qs)
start-fits [] = tt
start-fits (q ∷ qs) = (unedited (book_of q) refl refl, start-fits qs)

-- there is none past the last
at-fits : (books : List Book) (n : ℕ) → Each Fits books → Fits (book_at books n)
at-fits [] n h = unedited no_book refl refl
at-fits (b ∷ books) zero h = h.0
at-fits (b ∷ books) (suc n) h = at-fits books n h.1

pub books-are-merged : RunsKeepMerged
books-are-merged p journal n r =
    let b = book_at (run p journal).books n in
    (at-fits (run p journal).books n (from-fits (start p) journal (start-fits p.programs))).texts r ∙ merges-edits (routine_at b.base r).source (changes_in b r)
