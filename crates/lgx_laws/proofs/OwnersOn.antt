-- The owners that a run's answers tell are those of the books.
use Rattle.std.proofs.Common.{◌≡◌, ℕ, zero, suc, ◌+◌, ◌<◌, ◌⊎◌, inl, inr, Bool, true, false, cond, List, [], ◌∷◌, ◌++◌, length, length-append, map, Option, Some, None, refl, sym, ◌∙◌, ap, subst, arith, eq-eqb, get_or-set_same, get_or-set_other}
use Rattle.std.specs.Prelude.{Result, Ok, Err, ◌||◌, nat_eq, nat_lt, nat_le, is_none, is_some, flat_map, slice_set}
use Rattle.std.specs.List.{position_from}
use Rattle.std.proofs.lemmas.Bool.{cases_eq, ne_eqb, lt-ltb, ltb-true, false≢true}
use Rattle.spec_base.proofs.Binds.{bind_ok, ok_inj, err_not_ok, some_or_ok, unless_ok}
use Rattle.spec_base.specs.FirstCause.{◌>>=◌, unless}
use Rattle.spec_base.specs.declared.limits.TheConstants.{MAX_PROGRAM_INSTRUCTIONS}
use Rattle.lgx_num.specs.Name.{same}
use Rattle.lgx_rung.specs.Tree.{Source}
use Rattle.spec_language.specs.Checked.{CheckScope, checked}
use Rattle.spec_scan.specs.Position.{Rungs}
use Rattle.spec_tables.proofs.StateLists.{found}
use Rattle.spec_machine.specs.Commands.{AcceptCommand}
use Rattle.spec_machine.specs.declared.answer.Moment.{Moment}
use Rattle.spec_machine.specs.declared.answer.What.{What}
use Rattle.spec_machine.specs.declared.answer.What.TheVariants as what
use Rattle.spec_machine.specs.declared.reply.EditFault.{EditFault}
use Rattle.spec_machine.specs.declared.reply.EditFault.TheVariants.{E1, E3, E5, E6, E8, E9, E10}
use Rattle.spec_machine.specs.declared.reply.Reply.TheVariants as reply
use Rattle.spec_machine.specs.declared.event.Event.{Event}
use Rattle.spec_machine.specs.declared.event.Event.TheVariants as events
use Rattle.spec_machine.specs.declared.event.Action.{Action}
use Rattle.spec_machine.specs.declared.event.Action.TheVariants as action
use Rattle.spec_machine.specs.declared.event.RungEdit.{RungEdit}
use Rattle.spec_machine.specs.Edits.{Change, Book, book_of, no_book, book_at, Edited, accept, accept_in, on_accepted, has_accepted, test, untest, assemble, cancel, edit, program_named, scope_of, other_owner, unless_same, none_or, ok_or_cause, routine_at, changes_in, changes_of, taken_by, first_again, is_misplaced, with_changes, instruction_count}
use Rattle.spec_machine.specs.Project.{Project, ProgramText}
use Rattle.spec_machine.specs.State.{State}
use Rattle.spec_machine.specs.Actions.{edit_replied, act}
use Rattle.spec_machine.specs.Machine.{after_action, step}
use Rattle.spec_machine.specs.ProcessorStep.{processor_step}
use Rattle.spec_schedule.specs.declared.trace.Verb.{Verb}
use Rattle.spec_schedule.specs.declared.trace.Verb.TheVariants as verb
use Rattle.spec_schedule.specs.declared.trace.TraceAnswer.{TraceAnswer}
use Rattle.spec_schedule.specs.declared.trace.TraceAnswer.TheVariants as answer
use Rattle.spec_schedule.specs.declared.trace.TraceEvent.{TraceEvent}
use Rattle.spec_schedule.specs.declared.trace.TraceEvent.TheVariants.{Act}
use Rattle.spec_schedule.specs.Counting.{Counted, Numbers, CountedEvent}
use Rattle.spec_schedule.specs.TraceView.{step_seen, seen, program_number, answer_of}
use Rattle.spec_reach.proofs.EditNames.{names_of, accepted_parts, IsAccepted, is_accepted}
use Rattle.spec_reach.proofs.Books.{step_books, tick_books}
use Rattle.spec_reach.proofs.BookActions.{kept_books}
use Rattle.spec_reach.proofs.Reached.{known_at}
use Rattle.spec_legal.proofs.Along.{IsPlace}
use Rattle.lgx_laws.specs.Edits.{Owned, unowned, owned_by, owned_after, owned, owns}

-- ---- the owner of a book

-- What is told of a program's edits is so of its book. Edits that were tested are there, and edits that are there have an owner.
pub record HasOwner (o : Owned) (b : Book) : Type 0 where
  pub owner : o.owner ≡ b.owner
  pub tested : o.tested ≡ true → has_accepted b ≡ true
  pub some : has_accepted b ≡ true → is_some b.owner ≡ true

abbrev pub Owners : List Book → List CountedEvent → Type 0
Owners books past = (g : ℕ) → HasOwner (owned g past) (book_at books g)

-- an event and the books after it give the owners of the books
abbrev pub GivesOwners : List Book → List CountedEvent → TraceEvent → List Book → Type 0
GivesOwners before past e after = (g : ℕ) → HasOwner (owned_after g e (owned g past)) (book_at after g)

no_owner : (q : ProgramText) → HasOwner unowned (book_of q)
no_owner q = record { owner = refl; tested = λ e. absurd (false≢true e); some = λ e. absurd (false≢true e) }

pub first_owners : (programs : List ProgramText) (g : ℕ) → HasOwner unowned (book_at (map book_of programs) g)
first_owners [] g = record { owner = refl; tested = λ e. absurd (false≢true e); some = λ e. absurd (false≢true e) }
first_owners (q ∷ qs) zero = no_owner q
first_owners (q ∷ qs) (suc g) = first_owners qs g

-- ---- the owner and a lane

pub owns_it : (lane : ℕ) (w : Option ℕ) → unless_same lane w ≡ None → is_some w ≡ true → owns lane w ≡ true
owns_it lane None h e = absurd (false≢true e)
owns_it lane (Some u) h e = go (nat_eq u lane) refl h
  where
    go : (b : Bool) → nat_eq u lane ≡ b → cond b None (Some u) ≡ None → b ≡ true
    go true q k = refl
    go false q k = absurd (cc k)

pub owns_not : (lane x : ℕ) (w : Option ℕ) → unless_same lane w ≡ Some x → owns lane w ≡ false
owns_not lane x None h = refl
owns_not lane x (Some u) h = go (nat_eq u lane) h
  where
    go : (b : Bool) → cond b None (Some u) ≡ Some x → b ≡ false
    go true k = absurd (cc k)
    go false k = refl

pub free_or_own : (lane : ℕ) (w : Option ℕ) → unless_same lane w ≡ None → (is_none w || owns lane w) ≡ true
free_or_own lane None h = refl
free_or_own lane (Some u) h = owns_it lane (Some u) h refl

-- ---- the program that an edit names

named_by : (name : List ℕ) (i : ℕ) (books : List Book) (programs : List ProgramText) → names_of books ≡ map (λ q. q.name) programs → position_from (λ (b : Book). same b.name name) i books ≡ position_from (λ (q : ProgramText). same q.name name) i programs
named_by name i [] [] h = refl
named_by name i [] (q ∷ qs) h = absurd (cc h)
named_by name i (b ∷ bs) [] h = absurd (cc h)
named_by name i (b ∷ bs) (q ∷ qs) h =
    let first : b.name ≡ q.name = cc h in
    let rest : names_of bs ≡ map (λ r. r.name) qs = cc h in
    ap (λ (w : List ℕ). cond (same w name) (Some i) (position_from (λ (b : Book). same b.name name) (i + 1) bs)) first
    ∙ ap (λ (o : Option ℕ). cond (same q.name name) (Some i) o) (named_by name (i + 1) bs qs rest)

-- ---- the change of one book

set_owners : (books : List Book) (past : List CountedEvent) (h lane mask : ℕ) (v : Verb) (a : TraceAnswer) (b : Book) → Owners books past → h < length books → HasOwner (owned_by lane v a (owned h past)) b → GivesOwners books past (Act lane v (Some h) a mask) (slice_set books h b)
set_owners books past h lane mask v a b owners within new g = go (cases_eq g h)
  where
    go : (g ≡ h) ⊎ (g ≡ h → ⊥) → HasOwner (cond (nat_eq g h) (owned_by lane v a (owned g past)) (owned g past)) (book_at (slice_set books h b) g)
    go (inl is) =
        subst (λ (k : ℕ). HasOwner (cond (nat_eq k h) (owned_by lane v a (owned k past)) (owned k past)) (book_at (slice_set books h b) k)) (sym is)
        (subst (λ (y : Bool). HasOwner (cond y (owned_by lane v a (owned h past)) (owned h past)) (book_at (slice_set books h b) h)) (sym (eq-eqb h h refl))
        (subst (λ (c : Book). HasOwner (owned_by lane v a (owned h past)) c) (sym (get_or-set_same books h b no_book within)) new))
    go (inr ne) =
        subst (λ (y : Bool). HasOwner (cond y (owned_by lane v a (owned g past)) (owned g past)) (book_at (slice_set books h b) g)) (sym (ne_eqb g h ne))
        (subst (λ (c : Book). HasOwner (owned g past) c) (sym (get_or-set_other books h g b no_book ne)) (owners g))

-- an event that is no edit, or one that is refused
no_owners : (books : List Book) (past : List CountedEvent) (e : TraceEvent) (after : List Book) → Owners books past → after ≡ books → ((g : ℕ) (o : Owned) → owned_after g e o ≡ o) → GivesOwners books past e after
no_owners books past e after owners same keeps g = subst (λ (o : Owned). HasOwner o (book_at after g)) (sym (keeps g (owned g past))) (subst (λ (bs : List Book). HasOwner (owned g past) (book_at bs g)) (sym same) (owners g))

refused_owner : (g lane mask : ℕ) (v : Verb) (w : Option ℕ) (o : Owned) → ((x : Owned) → owned_by lane v answer.No x ≡ x) → owned_after g (Act lane v w answer.No mask) o ≡ o
refused_owner g lane mask v None o keeps = refl
refused_owner g lane mask v (Some h) o keeps = go (nat_eq g h)
  where
    go : (b : Bool) → cond b (owned_by lane v answer.No o) o ≡ o
    go true = keeps o
    go false = refl

has_more : {A : Type 0} (xs ys : List A) → nat_lt 0 (length xs) ≡ true → nat_lt 0 (length (xs ++ ys)) ≡ true
has_more xs ys h = let l = ltb-true 0 (length xs) h in let m = length-append xs ys in lt-ltb 0 (length (xs ++ ys)) (omega arith)

-- ---- an accept that is taken finds no other owner

module _ (scope : CheckScope) (lane r : ℕ) (edits : List RungEdit) (b : Book) where
  abbrev source_with : List Change → List Source
  source_with changes = Rattle.spec_reach.proofs.EditNames.source_with scope lane r edits b changes

  abbrev from_count : List Change → Rungs → Result Book EditFault
  from_count changes rungs =
      let b' = with_changes lane r changes (source_with changes) rungs b in
      unless (nat_le (instruction_count b'.merged) MAX_PROGRAM_INSTRUCTIONS) E9 >>= λ _. Ok b'

  abbrev from_texts : Result Book EditFault
  from_texts = changes_of 0 edits >>= λ changes. (ok_or_cause (checked scope (source_with changes)) E8 >>= from_count changes)

  abbrev from_places : Result Book EditFault
  from_places =
      none_or (position_from (is_misplaced (length (routine_at b.base r).source)) 0 edits) E5 >>= λ _. (none_or (first_again 0 (flat_map taken_by (changes_in b r)) edits) E6 >>= λ _. from_texts)

  pub no_other : (c : Book) → accept_in scope lane r edits b ≡ Ok c → other_owner b lane ≡ None
  no_other c h = go (other_owner b lane) (bind_ok (none_or (other_owner b lane) E3) (λ _. from_places) c h).1
    where
      go : (w : Option ℕ) → {x : Bool} → none_or w E3 ≡ Ok x → w ≡ None
      go None k = refl
      go (Some u) {x} k = err_not_ok (E3 u) x k

-- ---- one of the other four that is taken

module _ (change : Book → Result Book EditFault) (books : List Book) (lane : ℕ) (name : List ℕ) where
  abbrev with_book : ℕ → Book → Result Edited EditFault
  with_book n b = Ok (record { books = slice_set books n b; reply = reply.Done })

  abbrev from_change : ℕ → Result Edited EditFault
  from_change n = change (book_at books n) >>= with_book n

  abbrev from_accepted : ℕ → Result Edited EditFault
  from_accepted n = unless (has_accepted (book_at books n)) E10 >>= λ _. from_change n

  abbrev from_owner : ℕ → Result Edited EditFault
  from_owner n = none_or (other_owner (book_at books n) lane) E3 >>= λ _. from_accepted n

  record IsTaken (e : Edited) : Type 0 where
    pub number : ℕ
    pub book : Book
    pub named : program_named books name ≡ Ok number
    pub accepted : has_accepted (book_at books number) ≡ true
    pub changed : change (book_at books number) ≡ Ok book
    pub result : record { books = slice_set books number book; reply = reply.Done } ≡ e

  is_taken : (e : Edited) → on_accepted change books lane name ≡ Ok e → IsTaken e
  is_taken e h =
      let h1 = bind_ok (program_named books name) from_owner e h in
      let h2 = bind_ok (none_or (other_owner (book_at books h1.0) lane) E3) (λ _. from_accepted h1.0) e h1.2 in
      let h3 = bind_ok (unless (has_accepted (book_at books h1.0)) E10) (λ _. from_change h1.0) e h2.2 in
      let h4 = bind_ok (change (book_at books h1.0)) (with_book h1.0) e h3.2 in
      record {
        number = h1.0;
        book = h4.0;
        named = h1.1;
        accepted = unless_ok (has_accepted (book_at books h1.0)) E10 h3.0 h3.1;
        changed = h4.1;
        result = ok_inj (record { books = slice_set books h1.0 h4.0; reply = reply.Done }) e h4.2;
      }

-- ---- what the four make of an owner

test_owner : (lane : ℕ) (o : Owned) (b c : Book) → HasOwner o b → has_accepted b ≡ true → test b ≡ Ok c → HasOwner (owned_by lane verb.Test answer.Done o) c
test_owner lane o b c h has e = go b.testing e
  where
    go : (t : Bool) → test (record b { testing = t }) ≡ Ok c → HasOwner (record o { tested = true }) c
    go true k = err_not_ok _ c k
    go false k = subst (λ (x : Book). HasOwner (record o { tested = true }) x) (ok_inj _ c k) (record { owner = h.owner; tested = λ _. has; some = h.some })

untest_owner : (lane : ℕ) (o : Owned) (b c : Book) → HasOwner o b → has_accepted b ≡ true → untest b ≡ Ok c → HasOwner (owned_by lane verb.Untest answer.Done o) c
untest_owner lane o b c h has e = go b.testing e
  where
    go : (t : Bool) → untest (record b { testing = t }) ≡ Ok c → HasOwner o c
    go true k = subst (λ (x : Book). HasOwner o x) (ok_inj _ c k) (record { owner = h.owner; tested = h.tested; some = h.some })
    go false k = err_not_ok _ c k

assemble_owner : (lane : ℕ) (o : Owned) (b c : Book) → HasOwner o b → has_accepted b ≡ true → assemble b ≡ Ok c → HasOwner (owned_by lane verb.Assemble answer.Done o) c
assemble_owner lane o b c h has e = subst (λ (x : Book). HasOwner unowned x) (ok_inj _ c e) (record { owner = refl; tested = λ k. absurd (false≢true k); some = λ k. absurd (false≢true k) })

cancel_owner : (lane : ℕ) (o : Owned) (b c : Book) → HasOwner o b → has_accepted b ≡ true → cancel b ≡ Ok c → HasOwner (owned_by lane verb.Cancel answer.Done o) c
cancel_owner lane o b c h has e = subst (λ (x : Book). HasOwner unowned x) (ok_inj _ c e) (record { owner = refl; tested = λ k. absurd (false≢true k); some = λ k. absurd (false≢true k) })

-- ---- an action

module _ (p : Project) (s : State) (past : List CountedEvent) (owners : Owners s.books past) (names : names_of s.books ≡ map (λ q. q.name) p.programs) (lane : ℕ) where
  pub number_is : (name : List ℕ) → program_number p.programs (Some name) ≡ position_from (λ (b : Book). same b.name name) 0 s.books
  number_is name = sym (named_by name 0 s.books p.programs names)

  -- the program that is named is told
  pub told_number : (name : List ℕ) (n : ℕ) → program_named s.books name ≡ Ok n → program_number p.programs (Some name) ≡ Some n
  told_number name n is = number_is name ∙ some_or_ok (position_from (λ (b : Book). same b.name name) 0 s.books) E1 n is

  within_books : (name : List ℕ) (n : ℕ) → program_named s.books name ≡ Ok n → n < length s.books
  within_books name n is = (found (λ (b : Book). same b.name name) no_book s.books n (some_or_ok (position_from (λ (b : Book). same b.name name) 0 s.books) E1 n is)).0

  -- the books after an edit on the program that is named
  taken : (name : List ℕ) (n : ℕ) (v : Verb) (a : TraceAnswer) (mask : ℕ) (c : Book) → program_named s.books name ≡ Ok n → HasOwner (owned_by lane v a (owned n past)) c → GivesOwners s.books past (Act lane v (program_number p.programs (Some name)) a mask) (slice_set s.books n c)
  taken name n v a mask c is new =
      subst (λ (o : Option ℕ). GivesOwners s.books past (Act lane v o a mask) (slice_set s.books n c)) (sym (told_number name n is))
      (set_owners s.books past n lane mask v a c owners (within_books name n is) new)

  abbrev Gives : Verb → List ℕ → Result Edited EditFault → Type 0
  Gives v name r = GivesOwners s.books past (Act lane v (program_number p.programs (Some name)) (answer_of (edit_replied s r).answer.reply) 0) (edit_replied s r).state.books

  refused : (v : Verb) (name : List ℕ) (f : EditFault) → ((x : Owned) → owned_by lane v answer.No x ≡ x) → Gives v name (Err f)
  refused v name f keeps = no_owners s.books past (Act lane v (program_number p.programs (Some name)) answer.No 0) s.books owners refl (λ g o. refused_owner g lane 0 v (program_number p.programs (Some name)) o keeps)

  by_accept : (c : AcceptCommand) (r : Result Edited EditFault) → accept s.plan.tags s.plan.names s.books lane c ≡ r → Gives verb.Accept c.program r
  by_accept c (Err f) is = refused verb.Accept c.program f (λ x. refl)
  by_accept c (Ok e) is =
      let a = is_accepted s.plan.tags s.plan.names s.books lane c e is in
      let b = book_at s.books a.number in
      let parts = accepted_parts (scope_of s.plan.tags s.plan.names a.number b) lane a.routine c.edits b a.book a.accepted in
      let h = owners a.number in
      let new : HasOwner (record (owned a.number past) { owner = Some lane }) a.book =
      subst (λ (x : Book). HasOwner (record (owned a.number past) { owner = Some lane }) x) parts.2 (record { owner = refl; tested = λ t. has_more b.accepted _ (h.tested t); some = λ t. refl }) in
      subst (λ (y : Edited). Gives verb.Accept c.program (Ok y)) a.result (taken c.program a.number verb.Accept (answer.Number a.book.newest) 0 a.book a.named new)

  by_change : (v : Verb) (name : List ℕ) (change : Book → Result Book EditFault) (e : Edited) → on_accepted change s.books lane name ≡ Ok e → ((o : Owned) (b c : Book) → HasOwner o b → has_accepted b ≡ true → change b ≡ Ok c → HasOwner (owned_by lane v answer.Done o) c) → Gives v name (Ok e)
  by_change v name change e is makes =
      let a = is_taken change s.books lane name e is in
      subst (λ (y : Edited). Gives v name (Ok y)) a.result (taken name a.number v answer.Done 0 a.book a.named (makes (owned a.number past) (book_at s.books a.number) a.book (owners a.number) a.accepted a.changed))

  by_test : (n : List ℕ) (r : Result Edited EditFault) → on_accepted test s.books lane n ≡ r → Gives verb.Test n r
  by_test n (Err f) is = refused verb.Test n f (λ x. refl)
  by_test n (Ok e) is = by_change verb.Test n test e is (test_owner lane)

  by_untest : (n : List ℕ) (r : Result Edited EditFault) → on_accepted untest s.books lane n ≡ r → Gives verb.Untest n r
  by_untest n (Err f) is = refused verb.Untest n f (λ x. refl)
  by_untest n (Ok e) is = by_change verb.Untest n untest e is (untest_owner lane)

  by_assemble : (n : List ℕ) (r : Result Edited EditFault) → on_accepted assemble s.books lane n ≡ r → Gives verb.Assemble n r
  by_assemble n (Err f) is = refused verb.Assemble n f (λ x. refl)
  by_assemble n (Ok e) is = by_change verb.Assemble n assemble e is (assemble_owner lane)

  by_cancel : (n : List ℕ) (r : Result Edited EditFault) → on_accepted cancel s.books lane n ≡ r → Gives verb.Cancel n r
  by_cancel n (Err f) is = refused verb.Cancel n f (λ x. refl)
  by_cancel n (Ok e) is = by_change verb.Cancel n cancel e is (cancel_owner lane)

  abbrev ActGives : Action → Type 0
  ActGives a = GivesOwners s.books past (seen p (after_action lane a (act s lane a)).answer) (act s lane a).state.books

  keeps : (a : Action) → edit s.plan.tags s.plan.names s.books lane a ≡ None → ((g : ℕ) (o : Owned) → owned_after g (seen p (after_action lane a (act s lane a)).answer) o ≡ o) → ActGives a
  keeps a none same = no_owners s.books past (seen p (after_action lane a (act s lane a)).answer) (act s lane a).state.books owners (kept_books s lane a none) same

  zero_mask : (r : Result Edited EditFault) → (edit_replied s r).answer.released ≡ 0
  zero_mask (Err f) = refl
  zero_mask (Ok e) = refl

  with_mask : (v : Verb) (name : List ℕ) (r : Result Edited EditFault) → Gives v name r → GivesOwners s.books past (Act lane v (program_number p.programs (Some name)) (answer_of (edit_replied s r).answer.reply) (edit_replied s r).answer.released) (edit_replied s r).state.books
  with_mask v name r h = subst (λ (m : ℕ). GivesOwners s.books past (Act lane v (program_number p.programs (Some name)) (answer_of (edit_replied s r).answer.reply) m) (edit_replied s r).state.books) (sym (zero_mask r)) h

  act_gives : (a : Action) → ActGives a
  act_gives (action.Accept c) = let r = accept s.plan.tags s.plan.names s.books lane c in with_mask verb.Accept c.program r (by_accept c r refl)
  act_gives (action.Test n) = let r = on_accepted test s.books lane n in with_mask verb.Test n r (by_test n r refl)
  act_gives (action.Untest n) = let r = on_accepted untest s.books lane n in with_mask verb.Untest n r (by_untest n r refl)
  act_gives (action.Assemble n) = let r = on_accepted assemble s.books lane n in with_mask verb.Assemble n r (by_assemble n r refl)
  act_gives (action.Cancel n) = let r = on_accepted cancel s.books lane n in with_mask verb.Cancel n r (by_cancel n r refl)
  act_gives (action.WordIn conn word v) = keeps (action.WordIn conn word v) refl (λ g o. refl)
  act_gives (action.WordOut conn word) = keeps (action.WordOut conn word) refl (λ g o. refl)
  act_gives (action.ForceInstall conn word mask v) = keeps (action.ForceInstall conn word mask v) refl (λ g o. refl)
  act_gives action.ForceEnable = keeps action.ForceEnable refl (λ g o. refl)
  act_gives action.ForceDisable = keeps action.ForceDisable refl (λ g o. refl)
  act_gives action.ForceRemove = keeps action.ForceRemove refl (λ g o. refl)
  act_gives action.ModeRun = keeps action.ModeRun refl (λ g o. refl)
  act_gives action.ModeProgram = keeps action.ModeProgram refl (λ g o. refl)
  act_gives action.Clear = keeps action.Clear refl (λ g o. refl)

-- ---- a processor step is no edit

step_owner : (g : ℕ) (m : Moment) (w : What) (o : Owned) → owned_after g (step_seen m w) o ≡ o
step_owner g m what.Idle o = refl
step_owner g m (what.Began t n v) o = refl
step_owner g m (what.Ran t n) o = refl
step_owner g m (what.Copied t n) o = refl
step_owner g m (what.Left t n ended) o = refl

pub owners_next : (p : Project) (s : State) (e : Event) (cs : List Counted) (ns : List Numbers) (past : List CountedEvent) → IsPlace p s cs → Owners s.books past → GivesOwners s.books past (seen p (step s e).answer) (step s e).state.books
owners_next p s events.Cpu cs ns past h k = no_owners s.books past (seen p (step s events.Cpu).answer) (step s events.Cpu).state.books k (step_books s) (λ g o. step_owner g (processor_step s).answer (processor_step s).answer.what o)
owners_next p s events.Tick cs ns past h k = no_owners s.books past (seen p (step s events.Tick).answer) (step s events.Tick).state.books k (tick_books s) (λ g o. refl)
owners_next p s (events.Act lane a) cs ns past h k = act_gives p s past k (known_at p s h.reached).sizes.names lane a
