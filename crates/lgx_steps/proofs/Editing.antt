-- The edit commands keep books ready.
use Rattle.std.proofs.Common.{◌≡◌, ℕ, List, length, slice_set, Bool, true, false, None, Result, Ok, Err, refl, sym, ap, ◌∙◌, subst, arith, length-set, if◌then◌else◌}
use Rattle.std.specs.List.{AllByRecursion as Each}
use Rattle.spec_base.specs.FirstCause.{unless}
use Rattle.spec_base.proofs.Binds.{bind_ok, err_not_ok, ok_inj}
use Rattle.spec_language.specs.Declarations.{bytes}
use Rattle.spec_machine.specs.declared.reply.EditFault.{EditFault}
use Rattle.spec_machine.specs.declared.reply.EditFault.TheVariants.{E3, E10, E11, E12}
use Rattle.spec_machine.specs.declared.reply.Reply.TheVariants.{Done}
use Rattle.spec_machine.specs.Edits.{Book, Edited, no_book, book_at, program_named, none_or, other_owner, has_accepted, on_accepted, test, untest, assemble, cancel}
use Rattle.spec_machine.specs.State.{State}
use Rattle.spec_machine.specs.Actions.{edit_replied}
use Rattle.lgx_edit.specs.EditsView.{EditsView, books, Leaves}
use Rattle.lgx_edit.proofs.CheckedBooks.{KeepsChecked}
use Rattle.lgx_edit.proofs.Elements.{each-set, each-get_or}
use Rattle.lgx_steps.specs.PartsView.{PartsView}
use Rattle.lgx_steps.specs.Plans.{IsReadyBook}
use Rattle.lgx_steps.specs.Represents.{RepresentsState}
use Rattle.lgx_steps.specs.Gives.{ViewGives, edit_outcome}
use Rattle.lgx_steps.proofs.States.{with-books}

-- a command keeps a book ready
abbrev pub KeepsReady : (Book → Result Book EditFault) → Type 0
KeepsReady change = (len tasks n : ℕ) (b b' : Book) → change b ≡ Ok b' → IsReadyBook len tasks n b → IsReadyBook len tasks n b'

pub test-ready : KeepsReady test
test-ready len tasks n b b' e h = go b.testing e
  where
    go : (x : Bool) → (if x then Err E11 else Ok (record b { testing = true })) ≡ Ok b' → IsReadyBook len tasks n b'
    go true f = err_not_ok _ _ f
    go false f = subst (IsReadyBook len tasks n) (ok_inj _ b' f) (record { base = h.base; merged = h.merged; newest = h.newest })

pub untest-ready : KeepsReady untest
untest-ready len tasks n b b' e h = go b.testing e
  where
    go : (x : Bool) → (if x then Ok (record b { testing = false }) else Err E12) ≡ Ok b' → IsReadyBook len tasks n b'
    go true f = subst (IsReadyBook len tasks n) (ok_inj _ b' f) (record { base = h.base; merged = h.merged; newest = h.newest })
    go false f = err_not_ok _ _ f

pub assemble-ready : KeepsReady assemble
assemble-ready len tasks n b b' e h = subst (IsReadyBook len tasks n) (ok_inj _ b' e) (record { base = h.merged; merged = h.merged; newest = h.newest })

pub cancel-ready : KeepsReady cancel
cancel-ready len tasks n b b' e h = subst (IsReadyBook len tasks n) (ok_inj _ b' e) (record { base = h.base; merged = h.base; newest = h.newest })

-- ---- the book of one among all

pub no-rungs : (len tasks n : ℕ) → IsReadyBook len tasks n no_book
no-rungs len tasks n = record { base = record { executable = tt; know = tt }; merged = record { executable = tt; know = tt }; newest = omega arith }

-- what a command leaves of all books, which are as many and as ready
pub record LeavesReady (len tasks n : ℕ) (bs : List Book) (e : Edited) : Type 0 where
  pub done : e.reply ≡ Done
  pub many : length e.books ≡ length bs
  pub ready : Each (IsReadyBook len tasks n) e.books

pub command-ready : (change : Book → Result Book EditFault) (len tasks n lane : ℕ) (name : List ℕ) (bs : List Book) (e : Edited) → KeepsReady change → Each (IsReadyBook len tasks n) bs → on_accepted change bs lane name ≡ Ok e → LeavesReady len tasks n bs e
command-ready change len tasks n lane name bs e keeps h is =
    let r = bind_ok (program_named bs name) _ e is in
    let i : ℕ = r.0 in
    let b : Book = book_at bs i in
    let r₂ = bind_ok (none_or (other_owner b lane) E3) _ e r.2 in
    let r₃ = bind_ok (unless (has_accepted b) E10) _ e r₂.2 in
    let r₄ = bind_ok (change b) _ e r₃.2 in
    let b' : Book = r₄.0 in
    let new : IsReadyBook len tasks n b' = keeps len tasks n b b' r₄.1 (each-get_or (IsReadyBook len tasks n) bs i no_book h (no-rungs len tasks n)) in
    subst (LeavesReady len tasks n bs) (ok_inj (record { books = slice_set bs i b'; reply = Done }) e r₄.2)
    (record { done = refl; many = length-set bs i b'; ready = each-set (IsReadyBook len tasks n) bs i b' h new })

-- ---- the answer

module _ (n : ℕ) (v : PartsView) (s : State) (h : RepresentsState n v s) (change : Book → Result Book EditFault) (keeps : KeepsReady change) (kept : KeepsChecked change) (lane : ℕ) (name : List ℕ) (book : List EditsView) (answer : Result (Unit {0}) EditFault) where
  edited : (r : Result Edited EditFault) → on_accepted change s.books lane name ≡ r → Leaves r v.book book answer → ViewGives n (record v { book = book }) (edit_outcome answer) (edit_replied s r)
  edited (Ok e) is l =
      let r = command-ready change (bytes s.plan.tags) (length s.plan.schedule) n lane name s.books e keeps h.sane.books is in
      record {
        answers = ap edit_outcome l.0 ∙ ap (λ x. record { reply = x; fault = None; released = 0 }) (sym r.done);
        represents = with-books n v s h book e.books l.1 l.2 r.many r.ready (kept s.plan.tags s.plan.names lane name s.books e is h.sane.checked);
      }
  edited (Err f) is l = record {
    answers = ap edit_outcome l.0;
    represents = subst (λ (b : List EditsView). RepresentsState n (record v { book = b }) s) (sym l.1) h;
  }

  pub gives-edited : Leaves (on_accepted change (books v.book) lane name) v.book book answer → ViewGives n (record v { book = book }) (edit_outcome answer) (edit_replied s (on_accepted change s.books lane name))
  gives-edited l = edited (on_accepted change s.books lane name) refl (subst (λ (bs : List Book). Leaves (on_accepted change bs lane name) v.book book answer) h.books l)
