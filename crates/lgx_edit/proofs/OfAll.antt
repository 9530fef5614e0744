-- A command on one program's book, among the books of all.
use Rattle.std.proofs.Common.{◌≡◌, ℕ, zero, suc, ◌<◌, Bool, true, List, [], ◌∷◌, arith, length, get_or, set, slice_set, Option, Some, Result, Ok, Err, refl, sym, ap, ◌∙◌, subst}
use Rattle.std.proofs.lemmas.List.{get_or-map, map-set, set-get_or}
use Rattle.std.proofs.Math.Seq.{map-set_same}
use Rattle.spec_base.specs.FirstCause.{◌>>=◌, unless}
use Rattle.spec_machine.specs.declared.reply.EditFault.{EditFault}
use Rattle.spec_machine.specs.declared.reply.EditFault.TheVariants.{E3, E10}
use Rattle.spec_language.specs.declared.names.TaskName.{TaskName}
use Rattle.spec_language.specs.Declarations.{Declarations}
use Rattle.spec_machine.specs.Commands.{AcceptCommand}
use Rattle.spec_machine.specs.declared.reply.Reply.TheVariants.{Done, Version}
use Rattle.spec_machine.specs.Edits.{Book, Edited, no_book, book_at, program_named, routine_named, none_or, other_owner, has_accepted, scope_of, accept_in, accept, on_accepted, selected_number}
use Rattle.lgx_versions.specs.declared.slots.Version.{Version as version}
use Rattle.lgx_versions.specs.Roles.{Roles, selected}
use Rattle.lgx_edit.specs.EditsView.{EditsView, RunsSelected, on_book, AnswersBook, IsHeldNow, books, holds, HoldsNow, Leaves}
use Rattle.lgx_edit.specs.declared.error.EditError.{EditError}
use Rattle.lgx_edit.specs.declared.error.EditError.TheVariants.{Edit, Memory}
use Rattle.lgx_edit.specs.Accepting.{accept_at, Accepts, LeavesAccepted, has_numbers_left}
use Rattle.lgx_edit.specs.CheckedBooks.{IsBookChecked, AreChecked}
use Rattle.lgx_edit.proofs.CheckedBooks.{checked-at}
use Rattle.std.specs.Prelude.{nat_lt}
use Rattle.std.proofs.lemmas.Bool.{and_parts}

-- what a command makes of all books, if it makes this of book n
abbrev edited : List Book → ℕ → Book → Result Edited EditFault
edited all n b = Ok (record { books = slice_set all n b; reply = Done })

on_accepted-at : (change : Book → Result Book EditFault) (all : List Book) (lane n : ℕ) (name : List ℕ) → Ok n ≡ program_named all name
    → on_accepted change all lane name ≡ (on_book change lane (book_at all n) >>= edited all n)
on_accepted-at change all lane n name e =
    ap (λ (r : Result ℕ EditFault). r >>= after) (sym e)
    ∙ by_cause (none_or (other_owner (book_at all n) lane) E3) (unless (has_accepted (book_at all n)) E10) (change (book_at all n))
  where
    after : ℕ → Result Edited EditFault
    after k = none_or (other_owner (book_at all k) lane) E3 >>= λ _. unless (has_accepted (book_at all k)) E10 >>= λ _. change (book_at all k) >>= edited all k

    by_cause : (p q : Result Bool EditFault) (r : Result Book EditFault)
        → (p >>= λ _. q >>= λ _. r >>= edited all n) ≡ ((p >>= λ _. q >>= λ _. r) >>= edited all n)
    by_cause (Err f) q r = refl
    by_cause (Ok x) (Err f) r = refl
    by_cause (Ok x) (Ok y) (Err f) = refl
    by_cause (Ok x) (Ok y) (Ok b) = refl

-- the book of program n
pub book-there : (all now : List EditsView) (n : ℕ) (old : EditsView) → all ≡ now → n < length now → old ≡ get_or all n old → book_at (books now) n ≡ old.book
book-there all now n old is within there =
    ap (λ (w : List EditsView). book_at (books w) n) (sym is)
    ∙ (get_or-map (λ (e : EditsView). e.book) all n old no_book (subst (λ (w : List EditsView). n < length w) (sym is) within)
    ∙ ap (λ (e : EditsView). e.book) (sym there))

-- the other programs are as before
leaves-others : (all : List EditsView) (n : ℕ) (old new : EditsView) (answer : Result (Unit {0}) EditFault) (r : Result Book EditFault)
    → old ≡ get_or all n old → AnswersBook r old new answer → Leaves (r >>= edited (books all) n) all (set all n new) answer
leaves-others all n old new answer (Ok b) there a = (
  a.0,
  map-set (λ (e : EditsView). e.book) all n new ∙ ap (λ (x : Book). set (books all) n x) a.1,
  map-set_same (λ (e : EditsView). e.versions.roles.held) all n new old (a.2 ∙ ap (λ (e : EditsView). e.versions.roles.held) there),
)
leaves-others all n old new answer (Err f) there a =
    (a.0, ap (λ (e : EditsView). set all n e) (a.1 ∙ there) ∙ set-get_or all n old)

pub command-leaves : (change : Book → Result Book EditFault) (lane n : ℕ) (name : List ℕ) (all now : List EditsView) (old new : EditsView)
    (answer : Result (Unit {0}) EditFault) → all ≡ now → Ok n ≡ program_named (books now) name → n < length now → old ≡ get_or all n old
    → AnswersBook (on_book change lane old.book) old new answer
    → Leaves (on_accepted change (books now) lane name) now (set all n new) answer
command-leaves change lane n name all now old new answer is named within there a =
    subst (λ (w : List EditsView). Leaves (on_accepted change (books w) lane name) w (set all n new) answer) is
    (subst (λ (r : Result Edited EditFault). Leaves r all (set all n new) answer) (sym (on_accepted-at change (books all) lane n name named_all
    ∙ ap (λ (b : Book). on_book change lane b >>= edited (books all) n) the_book))
    (leaves-others all n old new answer (on_book change lane old.book) there a))
  where
    named_all : Ok n ≡ program_named (books all) name
    named_all = subst (λ (w : List EditsView). Ok n ≡ program_named (books w) name) (sym is) named

    the_book : book_at (books all) n ≡ old.book
    the_book = book-there all all n old refl (subst (λ (w : List EditsView). n < length w) (sym is) within) there

-- ---- holds

pub same-books : (all now : List EditsView) (n : ℕ) (old new : EditsView) → all ≡ now → old ≡ get_or all n old → new.book ≡ old.book
    → books (set all n new) ≡ books now
same-books all now n old new is there same =
    map-set_same (λ (e : EditsView). e.book) all n new old (same ∙ ap (λ (e : EditsView). e.book) there) ∙ ap (λ (w : List EditsView). books w) is

pub new-holds : (all now : List EditsView) (n : ℕ) (new : EditsView) (held : Option version) → all ≡ now → new.versions.roles.held ≡ held
    → holds (set all n new) ≡ set (holds now) n held
new-holds all now n new held is same =
    map-set (λ (e : EditsView). e.versions.roles.held) all n new
    ∙ (ap (λ (o : Option version). set (holds all) n o) same ∙ ap (λ (w : List EditsView). set (holds w) n held) is)

pub holds-now : (all now : List EditsView) (n number : ℕ) (old new : EditsView) → all ≡ now → n < length now → old ≡ get_or all n old
    → number ≡ selected_number old.book → IsHeldNow old new → HoldsNow n number now (set all n new)
holds-now all now n number old new is within there numbered h = record {
  version = selected old.versions.roles;
  numbered = h.numbered ∙ sym numbered;
  runs = subst (λ (b : Book). RunsSelected (selected old.versions.roles).program b) (sym (book-there all now n old is within there)) h.runs;
  holds = new-holds all now n new (Some (selected old.versions.roles)) is (ap (λ (r : Roles). r.held) h.roles);
}

-- ---- an accept

-- what an accept makes of all books, if it makes this of book n
abbrev accepted : List Book → ℕ → Book → Result Edited EditFault
accepted all n b = Ok (record { books = slice_set all n b; reply = Version b.newest })

accept-at : (tags : Declarations) (tasks : List TaskName) (all : List Book) (lane n : ℕ) (command : AcceptCommand) → Ok n ≡ program_named all command.program
    → accept tags tasks all lane command ≡ (accept_at (scope_of tags tasks n (book_at all n)) lane command (book_at all n) >>= accepted all n)
accept-at tags tasks all lane n command e =
    ap (λ (r : Result ℕ EditFault). r >>= after) (sym e)
    ∙ by_cause (routine_named (book_at all n) command.routine) (λ (r : ℕ). accept_in (scope_of tags tasks n (book_at all n)) lane r command.edits (book_at all n))
  where
    after : ℕ → Result Edited EditFault
    after k = routine_named (book_at all k) command.routine >>= λ r. accept_in (scope_of tags tasks k (book_at all k)) lane r command.edits (book_at all k) >>= accepted all k

    by_cause : (p : Result ℕ EditFault) (q : ℕ → Result Book EditFault) → (p >>= λ r. q r >>= accepted all n) ≡ ((p >>= q) >>= accepted all n)
    by_cause (Err f) q = refl
    by_cause (Ok r) q = refl

-- the other programs are as before
accepts-others : (all : List EditsView) (n : ℕ) (old new : EditsView) (answer : Result ℕ EditError) (meant : Result Book EditFault) (of_all : Result Edited EditFault)
    → old ≡ get_or all n old → of_all ≡ (meant >>= accepted (books all) n) → Accepts meant old new answer → LeavesAccepted of_all all (set all n new) answer
accepts-others all n old new (Ok k) meant of_all there is a = (
  is ∙ (ap (λ (r : Result Book EditFault). r >>= accepted (books all) n) a.0
      ∙ (ap (λ (bs : List Book). let r : Result Edited EditFault = Ok (record { books = bs; reply = Version new.book.newest }) in r) (sym (map-set (λ (e : EditsView). e.book) all n new))
      ∙ ap (λ (m : ℕ). let r : Result Edited EditFault = Ok (record { books = books (set all n new); reply = Version m }) in r) (sym a.1))),
  map-set_same (λ (e : EditsView). e.versions.roles.held) all n new old (a.2 ∙ ap (λ (e : EditsView). e.versions.roles.held) there),
)
accepts-others all n old new (Err (Edit f)) meant of_all there is a = (
  is ∙ ap (λ (r : Result Book EditFault). r >>= accepted (books all) n) a.0,
  ap (λ (e : EditsView). set all n e) (a.1 ∙ there) ∙ set-get_or all n old,
)
accepts-others all n old new (Err Memory) meant of_all there is a = ap (λ (e : EditsView). set all n e) (a ∙ there) ∙ set-get_or all n old

pub accept-leaves : (tags : Declarations) (tasks : List TaskName) (lane n : ℕ) (command : AcceptCommand) (all now : List EditsView) (old new : EditsView)
    (answer : Result ℕ EditError) → all ≡ now → Ok n ≡ program_named (books now) command.program → n < length now → old ≡ get_or all n old
    → Accepts (accept_at (scope_of tags tasks n old.book) lane command old.book) old new answer
    → LeavesAccepted (accept tags tasks (books now) lane command) now (set all n new) answer
accept-leaves tags tasks lane n command all now old new answer is named within there a =
    subst (λ (w : List EditsView). LeavesAccepted (accept tags tasks (books w) lane command) w (set all n new) answer) is
    (accepts-others all n old new answer (accept_at (scope_of tags tasks n old.book) lane command old.book) (accept tags tasks (books all) lane command) there
    (accept-at tags tasks (books all) lane n command named_all
    ∙ ap (λ (b : Book). accept_at (scope_of tags tasks n b) lane command b >>= accepted (books all) n) the_book) a)
  where
    named_all : Ok n ≡ program_named (books all) command.program
    named_all = subst (λ (w : List EditsView). Ok n ≡ program_named (books w) command.program) (sym is) named

    the_book : book_at (books all) n ≡ old.book
    the_book = book-there all all n old refl (subst (λ (w : List EditsView). n < length w) (sym is) within) there

-- ---- rungs as they were checked

pub checked-there : (tags : Declarations) (tasks : List TaskName) (all now : List EditsView) (n : ℕ) (old : EditsView) → all ≡ now → n < length now → old ≡ get_or all n old
    → AreChecked tags tasks (books now) → IsBookChecked tags tasks n old.book
checked-there tags tasks all now n old is within there h =
    subst (IsBookChecked tags tasks n) (book-there all now n old is within there) (checked-at tags tasks (books now) n h)

-- ---- numbers for accepts

numbers_left : (all : List EditsView) (n : ℕ) (e : EditsView) → has_numbers_left (books all) ≡ true → n < length all → e ≡ get_or all n e → nat_lt e.book.newest 4294967295 ≡ true
numbers_left [] n e left h is = absurd (omega arith)
numbers_left (x ∷ xs) zero e left h is = ap (λ (v : EditsView). nat_lt v.book.newest 4294967295) is ∙ (and_parts (nat_lt x.book.newest 4294967295) (has_numbers_left (books xs)) left).0
numbers_left (x ∷ xs) (suc n) e left h is = numbers_left xs n e (and_parts (nat_lt x.book.newest 4294967295) (has_numbers_left (books xs)) left).1 (omega arith) is

pub number_left : (all now : List EditsView) (n : ℕ) (e : EditsView) → all ≡ now → n < length now → e ≡ get_or all n e → has_numbers_left (books now) ≡ true → nat_lt e.book.newest 4294967295 ≡ true
number_left all now n e is within there left =
    numbers_left all n e (subst (λ (w : List EditsView). has_numbers_left (books w) ≡ true) (sym is) left) (subst (λ (w : List EditsView). n < length w) (sym is) within) there
