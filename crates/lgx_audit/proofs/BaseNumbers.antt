-- The number of a program's base is at most that of its last accept.
use Rattle.std.proofs.Common.{◌≡◌, ℕ, zero, suc, ◌≤◌, Bool, true, false, List, [], ◌∷◌, map, Some, sym, ap, subst, arith}
use Rattle.std.specs.Prelude.{Result, Ok, Err, slice_set, if◌then◌else◌}
use Rattle.spec_base.proofs.Binds.{ok_inj, err_not_ok}
use Rattle.spec_machine.specs.declared.reply.EditFault.{EditFault}
use Rattle.spec_machine.specs.declared.event.Event.{Event}
use Rattle.spec_machine.specs.declared.event.Event.TheVariants as events
use Rattle.spec_machine.specs.declared.event.Action.{Action}
use Rattle.spec_machine.specs.declared.event.Action.TheVariants as action
use Rattle.spec_machine.specs.Edits.{Book, book_of, book_at, selected_number, Edited, edit, scope_of, test, untest, assemble, cancel}
use Rattle.spec_machine.specs.Actions.{act}
use Rattle.spec_machine.specs.Machine.{step, run_from, run}
use Rattle.spec_machine.specs.Project.{Project, ProgramText}
use Rattle.spec_machine.specs.State.{State, start}
use Rattle.spec_reach.proofs.BookActions.{ActsOnBooks, Edits, Keeps, acts_on_books}
use Rattle.spec_reach.proofs.Books.{step_books, tick_books}
use Rattle.spec_reach.proofs.EditNames.{accepted_parts, is_accepted, IsChanged, is_changed}

abbrev IsOrdered : Book → Type 0
IsOrdered b = b.number ≤ b.newest

abbrev pub AreOrdered : List Book → Type 0
AreOrdered books = (g : ℕ) → IsOrdered (book_at books g)

set_ordered : (books : List Book) (n : ℕ) (b : Book) → IsOrdered b → AreOrdered books → AreOrdered (slice_set books n b)
set_ordered [] n b k h g = h g
set_ordered (x ∷ xs) zero b k h zero = k
set_ordered (x ∷ xs) zero b k h (suc g) = h (suc g)
set_ordered (x ∷ xs) (suc n) b k h zero = h zero
set_ordered (x ∷ xs) (suc n) b k h (suc g) = set_ordered xs n b k (λ i. h (suc i)) g

-- ---- the four changes of a book

abbrev KeepsOrder : (Book → Result Book EditFault) → Type 0
KeepsOrder change = (b c : Book) → change b ≡ Ok c → IsOrdered b → IsOrdered c

test_order : KeepsOrder test
test_order b c h k = go b.testing h
  where
    go : (t : Bool) → test (record b { testing = t }) ≡ Ok c → IsOrdered c
    go true h = err_not_ok _ c h
    go false h = subst IsOrdered (ok_inj _ c h) k

untest_order : KeepsOrder untest
untest_order b c h k = go b.testing h
  where
    go : (t : Bool) → untest (record b { testing = t }) ≡ Ok c → IsOrdered c
    go true h = subst IsOrdered (ok_inj _ c h) k
    go false h = err_not_ok _ c h

assemble_order : KeepsOrder assemble
assemble_order b c h k = subst IsOrdered (ok_inj _ c h) (let e : b.newest ≤ b.newest = omega arith in e)

cancel_order : KeepsOrder cancel
cancel_order b c h k = subst IsOrdered (ok_inj _ c h) k

-- ---- an event

changed_order : (change : Book → Result Book EditFault) (books : List Book) (lane : ℕ) (name : List ℕ) (e : Edited) → KeepsOrder change → IsChanged change books lane name e → AreOrdered books → AreOrdered e.books
changed_order change books lane name e keeps x h =
    subst (λ (y : Edited). AreOrdered y.books) x.result (set_ordered books x.number x.book (keeps (book_at books x.number) x.book x.changed (h x.number)) h)

edit_order : (s : State) (lane : ℕ) (a : Action) (e : Edited) → edit s.plan.tags s.plan.names s.books lane a ≡ Some (Ok e) → AreOrdered s.books → AreOrdered e.books
edit_order s lane (action.Accept c) e k h =
    let x = is_accepted s.plan.tags s.plan.names s.books lane c e (cc k) in
    let parts = accepted_parts (scope_of s.plan.tags s.plan.names x.number (book_at s.books x.number)) lane x.routine c.edits (book_at s.books x.number) x.book x.accepted in
    let newest = ap (λ (b : Book). b.newest) parts.2 in
    let number = ap (λ (b : Book). b.number) parts.2 in
    let old = h x.number in
    subst (λ (y : Edited). AreOrdered y.books) x.result (set_ordered s.books x.number x.book (omega arith) h)
edit_order s lane (action.Test n) e k h = changed_order test s.books lane n e test_order (is_changed test s.books lane n e (cc k)) h
edit_order s lane (action.Untest n) e k h = changed_order untest s.books lane n e untest_order (is_changed untest s.books lane n e (cc k)) h
edit_order s lane (action.Assemble n) e k h = changed_order assemble s.books lane n e assemble_order (is_changed assemble s.books lane n e (cc k)) h
edit_order s lane (action.Cancel n) e k h = changed_order cancel s.books lane n e cancel_order (is_changed cancel s.books lane n e (cc k)) h
edit_order s lane _ e k h = absurd (cc k)

act_order : (s : State) (lane : ℕ) (a : Action) → ActsOnBooks s lane a → AreOrdered s.books → AreOrdered (act s lane a).state.books
act_order s lane a (Keeps none same) h = subst AreOrdered (sym same) h
act_order s lane a (Edits (Err f) is acts) h = subst AreOrdered (sym (ap (λ x. x.state.books) acts)) h
act_order s lane a (Edits (Ok e) is acts) h = subst AreOrdered (sym (ap (λ x. x.state.books) acts)) (edit_order s lane a e is h)

event_order : (s : State) (e : Event) → AreOrdered s.books → AreOrdered (step s e).state.books
event_order s events.Cpu h = subst AreOrdered (sym (step_books s)) h
event_order s events.Tick h = subst AreOrdered (sym (tick_books s)) h
event_order s (events.Act lane a) h = act_order s lane a (acts_on_books s lane a) h

-- ---- a run

order_from : (s : State) (es : List Event) → AreOrdered s.books → AreOrdered (run_from s es).books
order_from s [] h = h
order_from s (e ∷ es) h = order_from (step s e).state es (event_order s e h)

start_order : (qs : List ProgramText) → AreOrdered (map book_of qs)
start_order [] g = omega arith
start_order (q ∷ qs) zero = omega arith
start_order (q ∷ qs) (suc g) = start_order qs g

run_order : (p : Project) (journal : List Event) → AreOrdered (run p journal).books
run_order p journal = order_from (start p) journal (start_order p.programs)

-- so the number of what is selected is too
pub selected_below : (p : Project) (journal : List Event) (g : ℕ) → selected_number (book_at (run p journal).books g) ≤ (book_at (run p journal).books g).newest
selected_below p journal g = go (book_at (run p journal).books g).testing (run_order p journal g)
  where
    b : Book
    b = book_at (run p journal).books g

    go : (t : Bool) → IsOrdered b → (if t then b.newest else b.number) ≤ b.newest
    go true h = omega arith
    go false h = h
