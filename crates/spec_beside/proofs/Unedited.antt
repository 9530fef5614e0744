-- As long as no edit is accepted the books are as they were at the start.
use Rattle.std.proofs.Common.{◌≡◌, ℕ, zero, suc, Bool, true, false, not, List, [], ◌∷◌, ◌++◌, map, Some, refl, sym, ◌∙◌, ap, subst}
use Rattle.std.specs.Prelude.{Result, Ok, Err, slice_get, slice_set}
use Rattle.std.specs.List.{list_all}
use Rattle.std.proofs.lemmas.Bool.{and_parts, and_from, false≢true}
use Rattle.spec_base.specs.FirstCause.{◌>>=◌, unless}
use Rattle.spec_base.proofs.Binds.{bind_ok, unless_ok}
use Rattle.spec_language.specs.declared.names.TaskName.{TaskName}
use Rattle.spec_language.specs.Declarations.{Declarations}
use Rattle.spec_machine.specs.Commands.{AcceptCommand}
use Rattle.spec_machine.specs.declared.event.Action.{Action}
use Rattle.spec_machine.specs.declared.event.Action.TheVariants as action
use Rattle.spec_machine.specs.declared.event.Event.{Event}
use Rattle.spec_machine.specs.declared.event.Event.TheVariants as events
use Rattle.spec_machine.specs.declared.reply.EditFault.{EditFault}
use Rattle.spec_machine.specs.declared.reply.EditFault.TheVariants.{E3, E10}
use Rattle.spec_machine.specs.declared.reply.Reply.TheVariants.{Done}
use Rattle.spec_machine.specs.Actions.{act}
use Rattle.spec_machine.specs.Edits.{Book, book_of, book_at, Edited, edit, on_accepted, test, untest, assemble, cancel, program_named, other_owner, none_or, has_accepted}
use Rattle.spec_machine.specs.Machine.{TraceEntry, step, run_from, trace_from}
use Rattle.spec_machine.specs.Project.{ProgramText}
use Rattle.spec_machine.specs.State.{State}
use Rattle.spec_reach.proofs.BookActions.{ActsOnBooks, Edits, Keeps, acts_on_books}
use Rattle.spec_reach.proofs.Books.{step_books, tick_books}
use Rattle.spec_reach.proofs.EditNames.{IsAccepted, is_accepted}
use Rattle.spec_uses.specs.Changes.{is_version, is_accepted as tells_version}

-- ---- the books of the start

pub book_got : (ps : List ProgramText) (n : ℕ) (q : ProgramText) → slice_get ps n ≡ Some q → book_at (map book_of ps) n ≡ book_of q
book_got [] n q e = absurd (cc e)
book_got (x ∷ xs) zero q e = ap book_of (cc e)
book_got (x ∷ xs) (suc n) q e = book_got xs n q e

none_accepted : (ps : List ProgramText) (n : ℕ) → has_accepted (book_at (map book_of ps) n) ≡ false
none_accepted [] n = refl
none_accepted (x ∷ xs) zero = refl
none_accepted (x ∷ xs) (suc n) = none_accepted xs n

-- ---- commands

-- a command on accepted edits is refused
module _ (change : Book → Result Book EditFault) (ps : List ProgramText) (lane : ℕ) (name : List ℕ) where
  abbrev books : List Book
  books = map book_of ps

  abbrev from_book : ℕ → Book → Result Edited EditFault
  from_book n b = Ok (record { books = slice_set books n b; reply = Done })

  abbrev from_change : ℕ → Result Edited EditFault
  from_change n = change (book_at books n) >>= from_book n

  abbrev from_accepted : ℕ → Result Edited EditFault
  from_accepted n = unless (has_accepted (book_at books n)) E10 >>= λ _. from_change n

  abbrev from_owner : ℕ → Result Edited EditFault
  from_owner n = none_or (other_owner (book_at books n) lane) E3 >>= λ _. from_accepted n

  is_refused : (e : Edited) → on_accepted change books lane name ≡ Ok e → ⊥
  is_refused e h =
      let h1 = bind_ok (program_named books name) from_owner e h in
      let h2 = bind_ok (none_or (other_owner (book_at books h1.0) lane) E3) (λ _. from_accepted h1.0) e h1.2 in
      let h3 = bind_ok (unless (has_accepted (book_at books h1.0)) E10) (λ _. from_change h1.0) e h2.2 in
      false≢true (sym (none_accepted ps h1.0) ∙ unless_ok (has_accepted (book_at books h1.0)) E10 h3.0 h3.1)

-- an accept that is taken is answered with a number
accept_told : (tags : Declarations) (names : List TaskName) (before : List Book) (lane : ℕ) (command : AcceptCommand) (e : Edited) → IsAccepted tags names before lane command e → is_version e.reply ≡ true
accept_told tags names before lane command e x = ap (λ (y : Edited). is_version y.reply) (sym x.result)

-- ---- events

abbrev pub is_unaccepted : TraceEntry → Bool
is_unaccepted x = not (tells_version x)

module _ (ps : List ProgramText) where
  abbrev pub ArePlain : State → Type 0
  ArePlain s = s.books ≡ map book_of ps

  -- an edit that is taken is an accept, which is answered with a number
  taken : (s : State) (lane : ℕ) (a : Action) (e : Edited) → ArePlain s → edit s.plan.tags s.plan.names s.books lane a ≡ Some (Ok e) → is_version e.reply ≡ true
  taken s lane (action.Accept c) e plain is =
      accept_told s.plan.tags s.plan.names s.books lane c e (is_accepted s.plan.tags s.plan.names s.books lane c e (cc is))
  taken s lane (action.Test n) e plain is = absurd (is_refused test ps lane n e (subst (λ (b : List Book). on_accepted test b lane n ≡ Ok e) plain (cc is)))
  taken s lane (action.Untest n) e plain is = absurd (is_refused untest ps lane n e (subst (λ (b : List Book). on_accepted untest b lane n ≡ Ok e) plain (cc is)))
  taken s lane (action.Assemble n) e plain is = absurd (is_refused assemble ps lane n e (subst (λ (b : List Book). on_accepted assemble b lane n ≡ Ok e) plain (cc is)))
  taken s lane (action.Cancel n) e plain is = absurd (is_refused cancel ps lane n e (subst (λ (b : List Book). on_accepted cancel b lane n ≡ Ok e) plain (cc is)))
  taken s lane _ e plain is = absurd (cc is)

  act_plain : (s : State) (lane : ℕ) (a : Action) → ArePlain s → not (is_version (act s lane a).answer.reply) ≡ true → ActsOnBooks s lane a → (act s lane a).state.books ≡ s.books
  act_plain s lane a plain none (Keeps no_edit same) = same
  act_plain s lane a plain none (Edits (Err f) is acts) = ap (λ x. x.state.books) acts
  act_plain s lane a plain none (Edits (Ok e) is acts) =
      absurd (false≢true (ap not (sym (ap (λ x. is_version x.answer.reply) acts ∙ taken s lane a e plain is)) ∙ none))

  event_plain : (s : State) (e : Event) → ArePlain s → is_unaccepted (step s e).answer ≡ true → ArePlain (step s e).state
  event_plain s events.Cpu plain none = step_books s ∙ plain
  event_plain s events.Tick plain none = tick_books s ∙ plain
  event_plain s (events.Act lane a) plain none = act_plain s lane a plain none (acts_on_books s lane a) ∙ plain

  -- ---- runs

  pub parts : (s : State) (e : Event) (es : List Event) → list_all is_unaccepted (trace_from s (e ∷ es)) ≡ true → (is_unaccepted (step s e).answer ≡ true) × (list_all is_unaccepted (trace_from (step s e).state es) ≡ true)
  parts s e es h = and_parts (is_unaccepted (step s e).answer) (list_all is_unaccepted (trace_from (step s e).state es)) h

  pub plain_next : (s : State) (e : Event) (es : List Event) → ArePlain s → list_all is_unaccepted (trace_from s (e ∷ es)) ≡ true → ArePlain (step s e).state
  plain_next s e es plain h = event_plain s e plain (parts s e es h).0

  pub plain_from : (s : State) (es : List Event) → ArePlain s → list_all is_unaccepted (trace_from s es) ≡ true → ArePlain (run_from s es)
  plain_from s [] plain h = plain
  plain_from s (e ∷ es) plain h = plain_from (step s e).state es (plain_next s e es plain h) (parts s e es h).1

-- nothing is accepted before the last events
pub unaccepted_before : (s : State) (xs ys : List Event) → list_all is_unaccepted (trace_from s (xs ++ ys)) ≡ true → list_all is_unaccepted (trace_from s xs) ≡ true
unaccepted_before s [] ys h = refl
unaccepted_before s (x ∷ xs) ys h =
    let a = and_parts (is_unaccepted (step s x).answer) (list_all is_unaccepted (trace_from (step s x).state (xs ++ ys))) h in
    and_from (is_unaccepted (step s x).answer) (list_all is_unaccepted (trace_from (step s x).state xs)) a.0 (unaccepted_before (step s x).state xs ys a.1)
