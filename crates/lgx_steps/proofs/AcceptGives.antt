-- What an accept, and any other action, gives.
use Rattle.std.proofs.Common.{◌≡◌, ℕ, ◌+◌, ◌<◌, ◌≤◌, List, length, Bool, true, false, Result, Ok, Err, refl, sym, ap, ◌∙◌, subst, arith}
use Rattle.std.specs.Prelude.{IfOk, IfErr}
use Rattle.lgx_num.specs.declared.memory.Memory.{Memory}
use Rattle.std.specs.List.{AllByRecursion as Each}
use Rattle.spec_base.specs.declared.limits.TheConstants.{MAX_EVENTS}
use Rattle.spec_language.specs.declared.names.TaskName.{TaskName}
use Rattle.spec_language.specs.Declarations.{bytes}
use Rattle.spec_tables.specs.declared.conn.Slot.{Slot}
use Rattle.spec_tables.specs.declared.conn.ConnFault.{ConnFault}
use Rattle.spec_tables.specs.Connections.{slot}
use Rattle.spec_tables.specs.Tasks.{held}
use Rattle.spec_machine.specs.declared.answer.Outcome.{Outcome}
use Rattle.spec_machine.specs.declared.event.Action.{Action}
use Rattle.spec_machine.specs.declared.reply.EditFault.{EditFault}
use Rattle.spec_machine.specs.declared.reply.Reply.{Reply}
use Rattle.spec_machine.specs.declared.reply.Reply.TheVariants as reply
use Rattle.spec_machine.specs.Commands.{AcceptCommand}
use Rattle.spec_machine.specs.Edits.{Book, Edited, accept}
use Rattle.spec_machine.specs.State.{State, Plan}
use Rattle.spec_machine.specs.Actions.{act, edit_replied, held_or, take_out, word_out}
use Rattle.lgx_edit.specs.EditsView.{EditsView, books, holds}
use Rattle.lgx_edit.specs.declared.error.EditError.{EditError}
use Rattle.lgx_edit.specs.declared.error.EditError.TheVariants as error
use Rattle.lgx_edit.specs.Accepting.{has_numbers_left, LeavesAccepted}
use Rattle.lgx_edit.specs.CheckedBooks.{AreChecked}
use Rattle.lgx_edit.proofs.CheckedBooks.{accept-keeps_checked}
use Rattle.lgx_steps.specs.PartsView.{PartsView}
use Rattle.lgx_steps.specs.Plans.{IsReadyBook}
use Rattle.lgx_steps.specs.Represents.{RepresentsState}
use Rattle.lgx_steps.specs.Gives.{ViewGives, replied_by, refusal_of}
use Rattle.lgx_steps.proofs.Accepting.{StaysReady, accept-ready, numbers-left}
use Rattle.lgx_steps.proofs.States.{later, with-books}

-- ---- an accept

module _ (n : ℕ) (v : PartsView) (s : State) (h : RepresentsState n v s) where
  pub can-number : n ≤ MAX_EVENTS → has_numbers_left (books v.book) ≡ true
  can-number l = subst (λ (bs : List Book). has_numbers_left bs ≡ true) (sym h.books) (numbers-left (bytes s.plan.tags) (length s.plan.schedule) n s.books l h.sane.books)

  pub few-names : (names : List TaskName) → names ≡ v.plan.names → length names < 4294967296
  few-names names e =
      let f : length names ≡ length s.plan.schedule = ap (λ (ns : List TaskName). length ns) e ∙ (ap (λ (p : Plan). length p.names) h.plan ∙ h.sane.plan.names) in
      let few = h.sane.plan.few in
      omega arith

  pub has-checked : (names : List TaskName) → names ≡ v.plan.names → AreChecked v.plan.tags names (books v.book)
  has-checked names e =
      subst (λ (ns : List TaskName). AreChecked v.plan.tags ns (books v.book)) (sym e)
      (subst (λ (p : Plan). AreChecked p.tags p.names (books v.book)) (sym h.plan)
      (subst (λ (bs : List Book). AreChecked s.plan.tags s.plan.names bs) (sym h.books) h.sane.checked))

  -- the accept that is meant
  meant : (lane : ℕ) (command : AcceptCommand) → accept v.plan.tags v.plan.names (books v.book) lane command ≡ accept s.plan.tags s.plan.names s.books lane command
  meant lane command = ap (λ (p : Plan). accept p.tags p.names (books v.book) lane command) h.plan ∙ ap (λ (bs : List Book). accept s.plan.tags s.plan.names bs lane command) h.books

  pub accepted : (lane : ℕ) (command : AcceptCommand) (names : List TaskName) (book : List EditsView) (number : ℕ) (o : Outcome) → names ≡ v.plan.names → o ≡ replied_by (reply.Version number)
      → accept v.plan.tags names (books v.book) lane command ≡ Ok (record { books = books book; reply = reply.Version number }) → holds book ≡ holds v.book
      → ViewGives (n + 1) (record v { book = book }) o (edit_replied s (accept s.plan.tags s.plan.names s.books lane command))
  accepted lane command names book number o names_are is done held =
      let e : Edited = record { books = books book; reply = reply.Version number } in
      let answer : accept s.plan.tags s.plan.names s.books lane command ≡ Ok e = sym (meant lane command) ∙ (ap (λ (ns : List TaskName). accept v.plan.tags ns (books v.book) lane command) (sym names_are) ∙ done) in
      let named : length s.plan.schedule ≡ length s.plan.names = sym h.sane.plan.names in
      let l = later n v s h in
      let before : Each (IsReadyBook (bytes s.plan.tags) (length s.plan.names) n) s.books = subst (λ k. Each (IsReadyBook (bytes s.plan.tags) k n) s.books) named h.sane.books in
      let after : Each (IsReadyBook (bytes s.plan.tags) (length s.plan.names) (n + 1)) s.books = subst (λ k. Each (IsReadyBook (bytes s.plan.tags) k (n + 1)) s.books) named l.sane.books in
      let r : StaysReady s.plan.tags s.plan.names h.sane.plan.tags n s.books e = accept-ready s.plan.tags s.plan.names h.sane.plan.tags n lane command s.books e before after answer in
      subst (λ (x : Result Edited EditFault). ViewGives (n + 1) (record v { book = book }) o (edit_replied s x)) (sym answer)
      (record { answers = is; represents = with-books (n + 1) v s l book (books book) refl held r.many (subst (λ k. Each (IsReadyBook (bytes s.plan.tags) k (n + 1)) (books book)) (sym named) r.ready) (accept-keeps_checked s.plan.tags s.plan.names lane command s.books e answer h.sane.checked) })

  pub refused : (lane : ℕ) (command : AcceptCommand) (names : List TaskName) (book : List EditsView) (fault : EditFault) (o : Outcome) → names ≡ v.plan.names → o ≡ replied_by (reply.Edit fault)
      → accept v.plan.tags names (books v.book) lane command ≡ Err fault → book ≡ v.book
      → ViewGives (n + 1) (record v { book = book }) o (edit_replied s (accept s.plan.tags s.plan.names s.books lane command))
  refused lane command names book fault o names_are is done same =
      let answer : accept s.plan.tags s.plan.names s.books lane command ≡ Err fault = sym (meant lane command) ∙ (ap (λ (ns : List TaskName). accept v.plan.tags ns (books v.book) lane command) (sym names_are) ∙ done) in
      subst (λ (x : Result Edited EditFault). ViewGives (n + 1) (record v { book = book }) o (edit_replied s x)) (sym answer)
      (record { answers = is; represents = subst (λ (b : List EditsView). RepresentsState (n + 1) (record v { book = b }) s) (sym same) (later n v s h) })

  -- the same by the book's error
  pub refused-as : (lane : ℕ) (command : AcceptCommand) (names : List TaskName) (book : List EditsView) (e : EditError) (r : Result Outcome Memory) → names ≡ v.plan.names → r ≡ refusal_of e
      → LeavesAccepted (accept v.plan.tags names (books v.book) lane command) v.book book (Err e)
      → IfOk r (λ o. ViewGives (n + 1) (record v { book = book }) o (edit_replied s (accept s.plan.tags s.plan.names s.books lane command)))
  refused-as lane command names book (error.Edit fault) r names_are is l =
      subst (λ (x : Result Outcome Memory). IfOk x (λ o. ViewGives (n + 1) (record v { book = book }) o (edit_replied s (accept s.plan.tags s.plan.names s.books lane command)))) (sym is)
      (refused lane command names book fault (replied_by (reply.Edit fault)) names_are refl l.0 l.1)
  refused-as lane command names book error.Memory r names_are is l =
      subst (λ (x : Result Outcome Memory). IfOk x (λ o. ViewGives (n + 1) (record v { book = book }) o (edit_replied s (accept s.plan.tags s.plan.names s.books lane command)))) (sym is) tt

  -- ---- a word out

  pub gives-out : (conn : List ℕ) (word : ℕ) (r : Reply) (o : Outcome) → o ≡ replied_by r → r ≡ (word_out s conn word).answer.reply → ViewGives n v o (word_out s conn word)
  gives-out conn word r o is e = go (held s.table) (slot s.plan.conns conn word true) e
    where
      go : (b : Bool) (k : Result Slot ConnFault) → r ≡ (held_or b s (take_out s k)).answer.reply → ViewGives n v o (held_or b s (take_out s k))
      go true k f = record { answers = is ∙ ap replied_by f; represents = h }
      go false (Ok k) f = record { answers = is ∙ ap replied_by f; represents = h }
      go false (Err k) f = record { answers = is ∙ ap replied_by f; represents = h }

-- out of memory the book is as before
pub unchanged-as : (old book : List EditsView) (meant : Result Edited EditFault) (e : EditError) (r : Result Outcome Memory) → r ≡ refusal_of e → LeavesAccepted meant old book (Err e) → IfErr r (λ m. book ≡ old)
unchanged-as old book meant (error.Edit fault) r is l = subst (λ (x : Result Outcome Memory). IfErr x (λ m. book ≡ old)) (sym is) tt
unchanged-as old book meant error.Memory r is l = subst (λ (x : Result Outcome Memory). IfErr x (λ m. book ≡ old)) (sym is) l

-- ---- any action, counted after it

pub acts : (n : ℕ) (v : PartsView) (s : State) (lane : ℕ) (o : Outcome) (a a' : Action) → a ≡ a' → ViewGives n v o (act s lane a') → ViewGives (n + 1) v o (act s lane a)
acts n v s lane o a a' e g =
    subst (λ (x : Action). ViewGives (n + 1) v o (act s lane x)) (sym e) (record { answers = g.answers; represents = later n v (act s lane a').state g.represents })
