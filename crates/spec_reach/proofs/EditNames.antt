-- Edits keep the names of the books.
use Rattle.std.proofs.Common.{◌≡◌, ℕ, Bool, true, false, List, ◌++◌, map, Some, sym, ◌∙◌, ap}
use Rattle.std.specs.Prelude.{Result, Ok, Err, slice_set, nat_le, length, flat_map}
use Rattle.std.specs.List.{position_from}
use Rattle.spec_base.specs.FirstCause.{◌>>=◌, unless}
use Rattle.spec_scan.specs.Position.{Rungs}
use Rattle.spec_machine.specs.declared.reply.EditFault.TheVariants.{E3, E5, E6, E8, E9, E10}
use Rattle.spec_machine.specs.declared.reply.Reply.TheVariants.{Done, Version}
use Rattle.std.proofs.Math.Seq.{map-set_same}
use Rattle.spec_base.proofs.Binds.{bind_ok, ok_inj, err_not_ok}
use Rattle.lgx_rung.specs.Tree.{Source}
use Rattle.spec_base.specs.declared.limits.TheConstants.{MAX_PROGRAM_INSTRUCTIONS}
use Rattle.spec_machine.specs.declared.event.RungEdit.{RungEdit}
use Rattle.spec_machine.specs.Commands.{AcceptCommand}
use Rattle.spec_machine.specs.declared.reply.EditFault.{EditFault}
use Rattle.spec_machine.specs.declared.event.Action.{Action}
use Rattle.spec_machine.specs.declared.event.Action.TheVariants as action
use Rattle.spec_schedule.specs.Stages.{is_refusal}
use Rattle.spec_language.specs.declared.names.TaskName.{TaskName}
use Rattle.spec_language.specs.Declarations.{Declarations}
use Rattle.spec_language.specs.Checked.{CheckScope, checked}
use Rattle.spec_machine.specs.Edits.{Book, no_book, book_at, Change, Edited, merged, routine_at, changes_in, changes_of, taken_by, first_again, is_misplaced, other_owner, none_or, ok_or_cause, with_changes, instruction_count, scope_of, program_named, routine_named, has_accepted, accept, accept_in, on_accepted, test, untest, assemble, cancel, edit}

abbrev pub names_of : List Book → List (List ℕ)
names_of books = map (λ b. b.name) books

-- a book in place of another of the same name
pub set_names : (books : List Book) (n : ℕ) (b : Book) → b.name ≡ (book_at books n).name → names_of (slice_set books n b) ≡ names_of books
set_names books n b e = map-set_same (λ (x : Book). x.name) books n b no_book e

-- ---- an accept, cause by cause

or_cause_ok : {A F : Type 0} (x : Result A F) (e : F → EditFault) (y : A) → ok_or_cause x e ≡ Ok y → x ≡ Ok y
or_cause_ok (Ok x) e y h = ap (λ z. Ok z) (ok_inj x y h)
or_cause_ok (Err f) e y h = err_not_ok (e f) y h

module _ (scope : CheckScope) (lane r : ℕ) (edits : List RungEdit) (b : Book) where
  abbrev pub source_with : List Change → List Source
  source_with changes = merged (routine_at b.base r).source (changes_in b r ++ changes)

  abbrev from_count : List Change → Rungs → Result Book EditFault
  from_count changes rungs =
      let b' = with_changes lane r changes (source_with changes) rungs b in
      unless (nat_le (instruction_count b'.merged) MAX_PROGRAM_INSTRUCTIONS) E9 >>= λ _. Ok b'

  abbrev from_merged : List Change → Result Book EditFault
  from_merged changes = ok_or_cause (checked scope (source_with changes)) E8 >>= from_count changes

  abbrev from_texts : Result Book EditFault
  from_texts = changes_of 0 edits >>= from_merged

  abbrev from_again : Result Book EditFault
  from_again = none_or (first_again 0 (flat_map taken_by (changes_in b r)) edits) E6 >>= λ _. from_texts

  abbrev from_places : Result Book EditFault
  from_places = none_or (position_from (is_misplaced (length (routine_at b.base r).source)) 0 edits) E5 >>= λ _. from_again

  -- what is accepted are the changes, merged and checked
  pub accepted_parts : (c : Book) → accept_in scope lane r edits b ≡ Ok c → (changes : List Change) × (rungs : Rungs) × (with_changes lane r changes (source_with changes) rungs b ≡ c) × (checked scope (source_with changes) ≡ Ok rungs)
  accepted_parts c h =
      let h1 = bind_ok (none_or (other_owner b lane) E3) (λ _. from_places) c h in
      let h2 = bind_ok (none_or (position_from (is_misplaced (length (routine_at b.base r).source)) 0 edits) E5) (λ _. from_again) c h1.2 in
      let h3 = bind_ok (none_or (first_again 0 (flat_map taken_by (changes_in b r)) edits) E6) (λ _. from_texts) c h2.2 in
      let h4 = bind_ok (changes_of 0 edits) from_merged c h3.2 in
      let h5 = bind_ok (ok_or_cause (checked scope (source_with h4.0)) E8) (from_count h4.0) c h4.2 in
      let b' = with_changes lane r h4.0 (source_with h4.0) h5.0 b in
      let h6 = bind_ok (unless (nat_le (instruction_count b'.merged) MAX_PROGRAM_INSTRUCTIONS) E9) (λ _. Ok b') c h5.2 in
      (h4.0, h5.0, ok_inj b' c h6.2, or_cause_ok (checked scope (source_with h4.0)) E8 h5.0 h5.1)

-- an accept keeps the name of the book
pub accept_in_name : (scope : CheckScope) (lane r : ℕ) (edits : List RungEdit) (b c : Book) → accept_in scope lane r edits b ≡ Ok c → c.name ≡ b.name
accept_in_name scope lane r edits b c h = sym (ap (λ (x : Book). x.name) (accepted_parts scope lane r edits b c h).2)

-- ---- commands on the books

module _ (tags : Declarations) (tasks : List TaskName) (books : List Book) (lane : ℕ) (command : AcceptCommand) where
  abbrev scope_at : ℕ → CheckScope
  scope_at n = scope_of tags tasks n (book_at books n)

  abbrev from_book : ℕ → Book → Result Edited EditFault
  from_book n b = Ok (record { books = slice_set books n b; reply = Version b.newest })

  abbrev from_routine : ℕ → ℕ → Result Edited EditFault
  from_routine n r = accept_in (scope_at n) lane r command.edits (book_at books n) >>= from_book n

  abbrev from_program : ℕ → Result Edited EditFault
  from_program n = routine_named (book_at books n) command.routine >>= from_routine n

  -- an accept that is taken, in parts
  pub record IsAccepted (e : Edited) : Type 0 where
    pub number : ℕ
    pub routine : ℕ
    pub book : Book
    pub named : program_named books command.program ≡ Ok number
    pub accepted : accept_in (scope_at number) lane routine command.edits (book_at books number) ≡ Ok book
    pub result : record { books = slice_set books number book; reply = Version book.newest } ≡ e

  pub is_accepted : (e : Edited) → accept tags tasks books lane command ≡ Ok e → IsAccepted e
  is_accepted e h =
      let h1 = bind_ok (program_named books command.program) from_program e h in
      let h2 = bind_ok (routine_named (book_at books h1.0) command.routine) (from_routine h1.0) e h1.2 in
      let h3 = bind_ok (accept_in (scope_at h1.0) lane h2.0 command.edits (book_at books h1.0)) (from_book h1.0) e h2.2 in
      record { number = h1.0; routine = h2.0; book = h3.0; named = h1.1; accepted = h3.1; result = ok_inj (record { books = slice_set books h1.0 h3.0; reply = Version h3.0.newest }) e h3.2 }

  pub accept_names : (e : Edited) → accept tags tasks books lane command ≡ Ok e → names_of e.books ≡ names_of books
  accept_names e h =
      let a = is_accepted e h in
      sym (ap (λ (x : Edited). names_of x.books) a.result) ∙ set_names books a.number a.book (accept_in_name (scope_at a.number) lane a.routine command.edits (book_at books a.number) a.book a.accepted)

-- a change of a book that keeps its name
abbrev pub KeepsName : (Book → Result Book EditFault) → Type 0
KeepsName change = (b c : Book) → change b ≡ Ok c → c.name ≡ b.name

module _ (change : Book → Result Book EditFault) (books : List Book) (lane : ℕ) (name : List ℕ) where
  abbrev with_book : ℕ → Book → Result Edited EditFault
  with_book n b = Ok (record { books = slice_set books n b; reply = Done })

  abbrev from_change : ℕ → Result Edited EditFault
  from_change n = change (book_at books n) >>= with_book n

  abbrev from_accepted : ℕ → Result Edited EditFault
  from_accepted n = unless (has_accepted (book_at books n)) E10 >>= λ _. from_change n

  abbrev from_owner : ℕ → Result Edited EditFault
  from_owner n = none_or (other_owner (book_at books n) lane) E3 >>= λ _. from_accepted n

  -- one of the other four that is taken, in parts
  pub record IsChanged (e : Edited) : Type 0 where
    pub number : ℕ
    pub book : Book
    pub named : program_named books name ≡ Ok number
    pub changed : change (book_at books number) ≡ Ok book
    pub result : record { books = slice_set books number book; reply = Done } ≡ e

  pub is_changed : (e : Edited) → on_accepted change books lane name ≡ Ok e → IsChanged e
  is_changed e h =
      let h1 = bind_ok (program_named books name) from_owner e h in
      let h2 = bind_ok (none_or (other_owner (book_at books h1.0) lane) E3) (λ _. from_accepted h1.0) e h1.2 in
      let h3 = bind_ok (unless (has_accepted (book_at books h1.0)) E10) (λ _. from_change h1.0) e h2.2 in
      let h4 = bind_ok (change (book_at books h1.0)) (with_book h1.0) e h3.2 in
      record { number = h1.0; book = h4.0; named = h1.1; changed = h4.1; result = ok_inj (record { books = slice_set books h1.0 h4.0; reply = Done }) e h4.2 }

  pub accepted_names : (e : Edited) → KeepsName change → on_accepted change books lane name ≡ Ok e → names_of e.books ≡ names_of books
  accepted_names e keeps h =
      let a = is_changed e h in
      sym (ap (λ (x : Edited). names_of x.books) a.result) ∙ set_names books a.number a.book (keeps (book_at books a.number) a.book a.changed)

pub test_name : KeepsName test
test_name b c h = go b.testing h
  where
    go : (t : Bool) → test (record b { testing = t }) ≡ Ok c → c.name ≡ b.name
    go true h = err_not_ok _ c h
    go false h = sym (ap (λ (x : Book). x.name) (ok_inj _ c h))

pub untest_name : KeepsName untest
untest_name b c h = go b.testing h
  where
    go : (t : Bool) → untest (record b { testing = t }) ≡ Ok c → c.name ≡ b.name
    go true h = sym (ap (λ (x : Book). x.name) (ok_inj _ c h))
    go false h = err_not_ok _ c h

pub assemble_name : KeepsName assemble
assemble_name b c h = sym (ap (λ (x : Book). x.name) (ok_inj _ c h))

pub cancel_name : KeepsName cancel
cancel_name b c h = sym (ap (λ (x : Book). x.name) (ok_inj _ c h))

-- ---- all five

-- an edit that is taken isn't answered with a refusal
pub edit_is_taken : (tags : Declarations) (tasks : List TaskName) (books : List Book) (lane : ℕ) (a : Action) (e : Edited) → edit tags tasks books lane a ≡ Some (Ok e) → is_refusal e.reply ≡ false
edit_is_taken tags tasks books lane (action.Accept c) e h = let x = is_accepted tags tasks books lane c e (cc h) in ap (λ (y : Edited). is_refusal y.reply) (sym x.result)
edit_is_taken tags tasks books lane (action.Test n) e h = let x = is_changed test books lane n e (cc h) in ap (λ (y : Edited). is_refusal y.reply) (sym x.result)
edit_is_taken tags tasks books lane (action.Untest n) e h = let x = is_changed untest books lane n e (cc h) in ap (λ (y : Edited). is_refusal y.reply) (sym x.result)
edit_is_taken tags tasks books lane (action.Assemble n) e h = let x = is_changed assemble books lane n e (cc h) in ap (λ (y : Edited). is_refusal y.reply) (sym x.result)
edit_is_taken tags tasks books lane (action.Cancel n) e h = let x = is_changed cancel books lane n e (cc h) in ap (λ (y : Edited). is_refusal y.reply) (sym x.result)
edit_is_taken tags tasks books lane _ e h = absurd (cc h)
