-- The version law: the numbers that are counted are those of the books.
use Rattle.std.proofs.Common.{◌≡◌, ℕ, zero, suc, ◌+◌, ◌<◌, ◌⊎◌, inl, inr, Bool, true, false, cond, List, [], ◌∷◌, length, map, Option, Some, None, refl, sym, ◌∙◌, ap, subst, arith, eq-eqb, get_or-set_same, get_or-set_other}
use Rattle.std.specs.Prelude.{Result, Ok, Err, nat_eq, if◌then◌else◌, replicate, slice_set, slice_index_or}
use Rattle.std.specs.List.{list_all, enumerate_from, position_from}
use Rattle.std.proofs.lemmas.Bool.{and_from, cases_eq, cases_lt, ne_eqb}
use Rattle.std.proofs.lemmas.List.{length-map, length-replicate}
use Rattle.std.proofs.lemmas.List.{get_or_past}
use Rattle.spec_base.proofs.Binds.{ok_inj, err_not_ok, some_or_ok}
use Rattle.lgx_num.specs.Name.{same}
use Rattle.spec_tables.proofs.StateLists.{found}
use Rattle.spec_tables.specs.Tasks.{chosen}
use Rattle.spec_scan.specs.declared.bound.Effect.{Effect}
use Rattle.spec_scan.specs.declared.bound.Effect.TheVariants as effect
use Rattle.spec_scan.specs.Scan.{Advanced, advance}
use Rattle.spec_machine.specs.Commands.{AcceptCommand}
use Rattle.spec_machine.specs.declared.reply.EditFault.{EditFault}
use Rattle.spec_machine.specs.declared.reply.EditFault.TheVariants.{E1}
use Rattle.spec_machine.specs.declared.event.Event.{Event}
use Rattle.spec_machine.specs.declared.event.Event.TheVariants as events
use Rattle.spec_machine.specs.declared.event.Action.{Action}
use Rattle.spec_machine.specs.declared.event.Action.TheVariants as action
use Rattle.spec_machine.specs.Edits.{Book, book_of, no_book, book_at, Edited, accept, on_accepted, test, untest, assemble, cancel, edit, program_named, scope_of, selected_number as book_number}
use Rattle.spec_machine.specs.Project.{Project, ProgramText}
use Rattle.spec_machine.specs.State.{State, Scan, Progress, progress_of, start}
use Rattle.spec_machine.specs.ProcessorStep.{next_program, scan_step, task_step, after_advance}
use Rattle.spec_machine.specs.Actions.{edit_replied, act}
use Rattle.spec_machine.specs.Machine.{after_step, after_action, step}
use Rattle.spec_machine.specs.ValidProject.{IsValidProject}
use Rattle.spec_schedule.specs.declared.trace.Verb.{Verb}
use Rattle.spec_schedule.specs.declared.trace.Verb.TheVariants as verb
use Rattle.spec_schedule.specs.declared.trace.TraceAnswer.{TraceAnswer}
use Rattle.spec_schedule.specs.declared.trace.TraceAnswer.TheVariants as answer
use Rattle.spec_schedule.specs.declared.trace.TraceEvent.{TraceEvent}
use Rattle.spec_schedule.specs.declared.trace.TraceEvent.TheVariants.{Act}
use Rattle.spec_schedule.specs.Counting.{Counted, uncounted, Numbers, unedited, selected_number, edited, edited_at, edited_all}
use Rattle.spec_schedule.specs.Legal.{keeps_version}
use Rattle.spec_schedule.specs.TraceView.{audit_tasks, seen, program_number, answer_of}
use Rattle.spec_reach.proofs.EditNames.{names_of, accepted_parts, is_accepted, IsChanged, is_changed}
use Rattle.spec_reach.proofs.Books.{step_books, tick_books}
use Rattle.spec_reach.proofs.BookActions.{kept_books}
use Rattle.spec_reach.proofs.Reached.{known_at}
use Rattle.spec_legal.specs.CountedRuns.{numbers_of}
use Rattle.spec_legal.specs.LegalRuns.{RunsKeepVersions}
use Rattle.spec_legal.proofs.Along.{places_from, place, IsPlace, first_place, place_next, counts_next}

-- ---- the numbers of a book

pub record HasNumbers (p : Project) (books : List Book) (ns : List Numbers) : Type 0 where
  pub many : length ns ≡ length p.programs
  pub same : (g : ℕ) → slice_index_or ns g unedited ≡ numbers_of (book_at books g)

-- ---- the numbers after an event, program by program

edited_length : (i : ℕ) (e : TraceEvent) (ns : List Numbers) → length (map (λ x. edited_at x.0 e x.1) (enumerate_from i ns)) ≡ length ns
edited_length i e [] = refl
edited_length i e (n ∷ ns) = (let r = edited_length (i + 1) e ns in omega arith)

edited_here : (i : ℕ) (e : TraceEvent) (ns : List Numbers) (g : ℕ) → g < length ns → slice_index_or (map (λ x. edited_at x.0 e x.1) (enumerate_from i ns)) g unedited ≡ edited_at (i + g) e (slice_index_or ns g unedited)
edited_here i e [] g l = absurd (omega arith)
edited_here i e (n ∷ ns) zero l = ap (λ k. edited_at k e n) (let z : i ≡ i + 0 = omega arith in z)
edited_here i e (n ∷ ns) (suc g) l = edited_here (i + 1) e ns g (omega arith) ∙ ap (λ k. edited_at k e (slice_index_or ns g unedited)) (let z : i + 1 + g ≡ i + suc g = omega arith in z)

-- an event and the books after it give the numbers of the books
abbrev pub GivesNumbers : List Book → TraceEvent → List Book → Type 0
GivesNumbers before e after = (g : ℕ) → edited_at g e (numbers_of (book_at before g)) ≡ numbers_of (book_at after g)

numbers_by : (p : Project) (before after : List Book) (e : TraceEvent) (ns : List Numbers) → length after ≡ length p.programs → HasNumbers p before ns → GivesNumbers before e after → HasNumbers p after (edited_all e ns)
numbers_by p before after e ns many h gives = record {
  many = edited_length 0 e ns ∙ h.many;
  same = λ g.
      elim (cases_lt g (length ns)) [
        | inl l ↦ edited_here 0 e ns g l ∙ (ap (λ k. edited_at k e (slice_index_or ns g unedited)) (let z : 0 + g ≡ g = omega arith in z) ∙ (ap (edited_at g e) (h.same g) ∙ gives g))
        | inr a ↦ get_or_past (edited_all e ns) g unedited (let r = edited_length 0 e ns in omega arith) ∙ ap numbers_of (sym (get_or_past after g no_book (let m = h.many in omega arith)))
      ];
}

-- ---- steps and ticks

no_edit : (books : List Book) (e : TraceEvent) (after : List Book) → after ≡ books → ((g : ℕ) (n : Numbers) → edited_at g e n ≡ n) → GivesNumbers books e after
no_edit books e after same keeps g = keeps g (numbers_of (book_at books g)) ∙ ap (λ (bs : List Book). numbers_of (book_at bs g)) (sym same)

effect_edits : (p : Project) (s : State) (t : ℕ) (q : Progress) (scan : Scan) (a : Advanced) (g : ℕ) (n : Numbers) (e : Effect) → edited_at g (seen p (after_step (after_advance s t q scan (record a { effect = e }))).answer) n ≡ n
effect_edits p s t q scan a g n effect.Ran = refl
effect_edits p s t q scan a g n effect.Up = refl
effect_edits p s t q scan a g n effect.Down = refl
effect_edits p s t q scan a g n (effect.Trigger other) = refl
effect_edits p s t q scan a g n (effect.CopyStart sync) = refl
effect_edits p s t q scan a g n (effect.Copied true sync) = refl
effect_edits p s t q scan a g n (effect.Copied false sync) = refl
effect_edits p s t q scan a g n (effect.Left true) = refl
effect_edits p s t q scan a g n (effect.Left false) = refl
effect_edits p s t q scan a g n effect.Minor = refl
effect_edits p s t q scan a g n (effect.Major code) = refl

scan_edits : (p : Project) (s : State) (t : ℕ) (q : Progress) (o : Option Scan) (g : ℕ) (n : Numbers) → edited_at g (seen p (after_step (scan_step s t q o)).answer) n ≡ n
scan_edits p s t q None g n = refl
scan_edits p s t q (Some scan) g n = let a = advance scan.rungs scan.position s.image s.tick scan.first q.flags in effect_edits p s t q scan a g n a.effect

task_edits : (p : Project) (s : State) (o : Option ℕ) (g : ℕ) (n : Numbers) → edited_at g (seen p (after_step (task_step s o)).answer) n ≡ n
task_edits p s None g n = refl
task_edits p s (Some t) g n = scan_edits p s t (progress_of s t) (progress_of s t).scan g n

-- ---- the program that an edit names

named_by : (name : List ℕ) (i : ℕ) (books : List Book) (programs : List ProgramText) → names_of books ≡ map (λ q. q.name) programs → position_from (λ (b : Book). same b.name name) i books ≡ position_from (λ (q : ProgramText). same q.name name) i programs
named_by name i [] [] h = refl
named_by name i [] (q ∷ qs) h = absurd (cc h)
named_by name i (b ∷ bs) [] h = absurd (cc h)
named_by name i (b ∷ bs) (q ∷ qs) h =
    let first : b.name ≡ q.name = cc h in
    let rest : names_of bs ≡ map (λ r. r.name) qs = cc h in
    ap (λ (w : List ℕ). cond (same w name) (Some i) (position_from (λ (b : Book). same b.name name) (i + 1) bs)) first
    ∙ ap (λ (o : Option ℕ). cond (same q.name name) (Some i) o) (named_by name (i + 1) bs qs rest)

-- ---- edits

-- an edit of one program
module _ (books : List Book) (g h : ℕ) (v : Verb) (a : TraceAnswer) (b : Book) (within : h < length books) where
  edited_one : edited v a (numbers_of (book_at books h)) ≡ numbers_of b → (if nat_eq g h then edited v a (numbers_of (book_at books g)) else numbers_of (book_at books g)) ≡ numbers_of (book_at (slice_set books h b) g)
  edited_one e = go (cases_eq g h)
    where
      go : (g ≡ h) ⊎ (g ≡ h → ⊥) → (if nat_eq g h then edited v a (numbers_of (book_at books g)) else numbers_of (book_at books g)) ≡ numbers_of (book_at (slice_set books h b) g)
      go (inl is) =
          subst (λ (k : ℕ). (if nat_eq k h then edited v a (numbers_of (book_at books k)) else numbers_of (book_at books k)) ≡ numbers_of (book_at (slice_set books h b) k)) (sym is)
          (ap (λ (y : Bool). cond y (edited v a (numbers_of (book_at books h))) (numbers_of (book_at books h))) (eq-eqb h h refl) ∙ (e ∙ ap numbers_of (sym (get_or-set_same books h b no_book within))))
      go (inr ne) =
          ap (λ (y : Bool). cond y (edited v a (numbers_of (book_at books g))) (numbers_of (book_at books g))) (ne_eqb g h ne)
          ∙ ap numbers_of (sym (get_or-set_other books h g b no_book ne))

-- a refused edit changes no number
refused_at : (g lane : ℕ) (v : Verb) (o : Option ℕ) (n : Numbers) → ((m : Numbers) → edited v answer.No m ≡ m) → edited_at g (Act lane v o answer.No 0) n ≡ n
refused_at g lane v None n keeps = refl
refused_at g lane v (Some h) n keeps = go (nat_eq g h)
  where
    go : (b : Bool) → (if b then edited v answer.No n else n) ≡ n
    go true = keeps n
    go false = refl

-- the number that is told of an edit is that of its book
number_is : (p : Project) (books : List Book) (name : List ℕ) (h : ℕ) → names_of books ≡ map (λ q. q.name) p.programs → program_named books name ≡ Ok h → (program_number p.programs (Some name) ≡ Some h) × (h < length books)
number_is p books name h names is =
    let at = some_or_ok (position_from (λ (b : Book). same b.name name) 0 books) E1 h is in
    (sym (named_by name 0 books p.programs names) ∙ at, (found (λ (b : Book). same b.name name) no_book books h at).0)

taken_at : (books : List Book) (g h lane : ℕ) (v : Verb) (a : TraceAnswer) (b : Book) (o : Option ℕ) → o ≡ Some h → h < length books → edited v a (numbers_of (book_at books h)) ≡ numbers_of b → edited_at g (Act lane v o a 0) (numbers_of (book_at books g)) ≡ numbers_of (book_at (slice_set books h b) g)
taken_at books g h lane v a b o is within e = ap (λ (x : Option ℕ). edited_at g (Act lane v x a 0) (numbers_of (book_at books g))) is ∙ edited_one books g h v a b within e

test_numbers : (b c : Book) → test b ≡ Ok c → record { base = b.number; merged = b.newest; testing = true } ≡ numbers_of c
test_numbers b c h = go b.testing h
  where
    go : (t : Bool) → test (record b { testing = t }) ≡ Ok c → record { base = b.number; merged = b.newest; testing = true } ≡ numbers_of c
    go true h = err_not_ok _ c h
    go false h = ap numbers_of (ok_inj _ c h)

untest_numbers : (b c : Book) → untest b ≡ Ok c → record { base = b.number; merged = b.newest; testing = false } ≡ numbers_of c
untest_numbers b c h = go b.testing h
  where
    go : (t : Bool) → untest (record b { testing = t }) ≡ Ok c → record { base = b.number; merged = b.newest; testing = false } ≡ numbers_of c
    go true h = ap numbers_of (ok_inj _ c h)
    go false h = err_not_ok _ c h

module _ (p : Project) (s : State) (lane : ℕ) (names : names_of s.books ≡ map (λ q. q.name) p.programs) where
  -- what an edit gives, by its result
  abbrev EditGives : Action → Result Edited EditFault → Type 0
  EditGives a x = GivesNumbers s.books (seen p (after_action lane a (edit_replied s x)).answer) (edit_replied s x).state.books

  by_accept : (c : AcceptCommand) (x : Result Edited EditFault) → accept s.plan.tags s.plan.names s.books lane c ≡ x → EditGives (action.Accept c) x
  by_accept c (Err f) is = λ g. refused_at g lane verb.Accept (program_number p.programs (Some c.program)) (numbers_of (book_at s.books g)) (λ m. refl)
  by_accept c (Ok e) is =
      let a = is_accepted s.plan.tags s.plan.names s.books lane c e is in
      let k = number_is p s.books c.program a.number names a.named in
      let parts = accepted_parts (scope_of s.plan.tags s.plan.names a.number (book_at s.books a.number)) lane a.routine c.edits (book_at s.books a.number) a.book a.accepted in
      let same : record { base = (book_at s.books a.number).number; merged = a.book.newest; testing = (book_at s.books a.number).testing } ≡ numbers_of a.book =
      ap (λ (b : Book). record { base = b.number; merged = a.book.newest; testing = b.testing }) parts.2 in
      subst (λ (y : Edited). EditGives (action.Accept c) (Ok y)) a.result
      (λ g. taken_at s.books g a.number lane verb.Accept (answer.Number a.book.newest) a.book (program_number p.programs (Some c.program)) k.0 k.1 same)

  -- the other four
  by_change : (v : Verb) (name : List ℕ) (change : Book → Result Book EditFault) (e : Edited) → IsChanged change s.books lane name e → ((b c : Book) → change b ≡ Ok c → edited v answer.Done (numbers_of b) ≡ numbers_of c) → (g : ℕ) → edited_at g (Act lane v (program_number p.programs (Some name)) (answer_of e.reply) 0) (numbers_of (book_at s.books g)) ≡ numbers_of (book_at e.books g)
  by_change v name change e a numbers g =
      let k = number_is p s.books name a.number names a.named in
      subst (λ (y : Edited). edited_at g (Act lane v (program_number p.programs (Some name)) (answer_of y.reply) 0) (numbers_of (book_at s.books g)) ≡ numbers_of (book_at y.books g)) a.result
      (taken_at s.books g a.number lane v answer.Done a.book (program_number p.programs (Some name)) k.0 k.1 (numbers (book_at s.books a.number) a.book a.changed))

  by_test : (n : List ℕ) (x : Result Edited EditFault) → on_accepted test s.books lane n ≡ x → EditGives (action.Test n) x
  by_test n (Err f) is = λ g. refused_at g lane verb.Test (program_number p.programs (Some n)) (numbers_of (book_at s.books g)) (λ m. refl)
  by_test n (Ok e) is = by_change verb.Test n test e (is_changed test s.books lane n e is) test_numbers

  by_untest : (n : List ℕ) (x : Result Edited EditFault) → on_accepted untest s.books lane n ≡ x → EditGives (action.Untest n) x
  by_untest n (Err f) is = λ g. refused_at g lane verb.Untest (program_number p.programs (Some n)) (numbers_of (book_at s.books g)) (λ m. refl)
  by_untest n (Ok e) is = by_change verb.Untest n untest e (is_changed untest s.books lane n e is) untest_numbers

  by_assemble : (n : List ℕ) (x : Result Edited EditFault) → on_accepted assemble s.books lane n ≡ x → EditGives (action.Assemble n) x
  by_assemble n (Err f) is = λ g. refused_at g lane verb.Assemble (program_number p.programs (Some n)) (numbers_of (book_at s.books g)) (λ m. refl)
  by_assemble n (Ok e) is = by_change verb.Assemble n assemble e (is_changed assemble s.books lane n e is) (λ b c h. ap numbers_of (ok_inj _ c h))

  by_cancel : (n : List ℕ) (x : Result Edited EditFault) → on_accepted cancel s.books lane n ≡ x → EditGives (action.Cancel n) x
  by_cancel n (Err f) is = λ g. refused_at g lane verb.Cancel (program_number p.programs (Some n)) (numbers_of (book_at s.books g)) (λ m. refl)
  by_cancel n (Ok e) is = by_change verb.Cancel n cancel e (is_changed cancel s.books lane n e is) (λ b c h. ap numbers_of (ok_inj _ c h))

  abbrev Gives : Action → Type 0
  Gives a = GivesNumbers s.books (seen p (after_action lane a (act s lane a)).answer) (act s lane a).state.books

  keeps : (a : Action) → edit s.plan.tags s.plan.names s.books lane a ≡ None → ((g : ℕ) (n : Numbers) → edited_at g (seen p (after_action lane a (act s lane a)).answer) n ≡ n) → Gives a
  keeps a none same = no_edit s.books (seen p (after_action lane a (act s lane a)).answer) (act s lane a).state.books (kept_books s lane a none) same

  act_gives : (a : Action) → Gives a
  act_gives (action.Accept c) = by_accept c (accept s.plan.tags s.plan.names s.books lane c) refl
  act_gives (action.Test n) = by_test n (on_accepted test s.books lane n) refl
  act_gives (action.Untest n) = by_untest n (on_accepted untest s.books lane n) refl
  act_gives (action.Assemble n) = by_assemble n (on_accepted assemble s.books lane n) refl
  act_gives (action.Cancel n) = by_cancel n (on_accepted cancel s.books lane n) refl
  act_gives (action.WordIn conn word v) = keeps (action.WordIn conn word v) refl (λ g n. refl)
  act_gives (action.WordOut conn word) = keeps (action.WordOut conn word) refl (λ g n. refl)
  act_gives (action.ForceInstall conn word mask v) = keeps (action.ForceInstall conn word mask v) refl (λ g n. refl)
  act_gives action.ForceEnable = keeps action.ForceEnable refl (λ g n. refl)
  act_gives action.ForceDisable = keeps action.ForceDisable refl (λ g n. refl)
  act_gives action.ForceRemove = keeps action.ForceRemove refl (λ g n. refl)
  act_gives action.ModeRun = keeps action.ModeRun refl (λ g n. refl)
  act_gives action.ModeProgram = keeps action.ModeProgram refl (λ g n. refl)
  act_gives action.Clear = keeps action.Clear refl (λ g n. refl)

at_event : (p : Project) (s : State) (e : Event) → names_of s.books ≡ map (λ q. q.name) p.programs → GivesNumbers s.books (seen p (step s e).answer) (step s e).state.books
at_event p s events.Cpu names = no_edit s.books (seen p (step s events.Cpu).answer) (step s events.Cpu).state.books (step_books s) (task_edits p s (chosen s.table))
at_event p s events.Tick names = no_edit s.books (seen p (step s events.Tick).answer) (step s events.Tick).state.books (tick_books s) (λ g n. refl)
at_event p s (events.Act lane a) names = act_gives p s lane names a

-- ---- the version of a begin

effect_versions : (p : Project) (s : State) (t : ℕ) (q : Progress) (scan : Scan) (a : Advanced) (cs : List Counted) (ns : List Numbers) (e : Effect) → keeps_version (record { tasks = cs; programs = ns; event = seen p (after_step (after_advance s t q scan (record a { effect = e }))).answer }) ≡ true
effect_versions p s t q scan a cs ns effect.Ran = refl
effect_versions p s t q scan a cs ns effect.Up = refl
effect_versions p s t q scan a cs ns effect.Down = refl
effect_versions p s t q scan a cs ns (effect.Trigger other) = refl
effect_versions p s t q scan a cs ns (effect.CopyStart sync) = refl
effect_versions p s t q scan a cs ns (effect.Copied true sync) = refl
effect_versions p s t q scan a cs ns (effect.Copied false sync) = refl
effect_versions p s t q scan a cs ns (effect.Left true) = refl
effect_versions p s t q scan a cs ns (effect.Left false) = refl
effect_versions p s t q scan a cs ns effect.Minor = refl
effect_versions p s t q scan a cs ns (effect.Major code) = refl

version_task : (p : Project) (s : State) (cs : List Counted) (ns : List Numbers) → ((g : ℕ) → slice_index_or ns g unedited ≡ numbers_of (book_at s.books g)) → (o : Option ℕ) → keeps_version (record { tasks = cs; programs = ns; event = seen p (after_step (task_step s o)).answer }) ≡ true
version_task p s cs ns same None = refl
version_task p s cs ns same (Some t) = by_scan (progress_of s t) (progress_of s t).scan
  where
    by_scan : (q : Progress) (o : Option Scan) → keeps_version (record { tasks = cs; programs = ns; event = seen p (after_step (scan_step s t q o)).answer }) ≡ true
    by_scan q None = let g = next_program s t q in eq-eqb (book_number (book_at s.books g)) (selected_number (slice_index_or ns g unedited)) (ap selected_number (sym (same g)))
    by_scan q (Some scan) = let a = advance scan.rungs scan.position s.image s.tick scan.first q.flags in effect_versions p s t q scan a cs ns a.effect

version_here : (p : Project) (s : State) (e : Event) (cs : List Counted) (ns : List Numbers) → HasNumbers p s.books ns → keeps_version (place p s cs ns e) ≡ true
version_here p s events.Cpu cs ns h = version_task p s cs ns h.same (chosen s.table)
version_here p s events.Tick cs ns h = refl
version_here p s (events.Act lane a) cs ns h = refl

-- ---- along a run

books_many : (books : List Book) (programs : List ProgramText) → names_of books ≡ map (λ q. q.name) programs → length books ≡ length programs
books_many books programs h = sym (length-map books (λ (b : Book). b.name)) ∙ (ap (λ (xs : List (List ℕ)). length xs) h ∙ length-map programs (λ (q : ProgramText). q.name))

pub numbers_next : (p : Project) (valid : IsValidProject p) (s : State) (e : Event) (cs : List Counted) (ns : List Numbers) → IsPlace p s cs → HasNumbers p s.books ns → HasNumbers p (step s e).state.books (edited_all (seen p (step s e).answer) ns)
numbers_next p valid s e cs ns h k =
    let known = known_at p s h.reached in
    let known' = known_at p (step s e).state (place_next p valid s e cs h).reached in
    numbers_by p s.books (step s e).state.books (seen p (step s e).answer) ns (books_many (step s e).state.books p.programs known'.sizes.names) k (at_event p s e known.sizes.names)

along : (p : Project) (valid : IsValidProject p) (s : State) (es : List Event) (cs : List Counted) (ns : List Numbers) → IsPlace p s cs → HasNumbers p s.books ns → list_all keeps_version (places_from p s cs ns es) ≡ true
along p valid s [] cs ns h k = refl
along p valid s (e ∷ es) cs ns h k =
    and_from (keeps_version (place p s cs ns e)) _ (version_here p s e cs ns k)
    (along p valid (step s e).state es (counts_next p valid s e cs) (edited_all (seen p (step s e).answer) ns) (place_next p valid s e cs h) (numbers_next p valid s e cs ns h k))

unedited_at : (n g : ℕ) → slice_index_or (replicate n unedited) g unedited ≡ unedited
unedited_at zero g = refl
unedited_at (suc n) zero = refl
unedited_at (suc n) (suc g) = unedited_at n g

first_books : (programs : List ProgramText) (g : ℕ) → numbers_of (book_at (map book_of programs) g) ≡ unedited
first_books [] g = refl
first_books (q ∷ qs) zero = refl
first_books (q ∷ qs) (suc g) = first_books qs g

pub first_numbers : (p : Project) → HasNumbers p (start p).books (replicate (length p.programs) unedited)
first_numbers p = record { many = length-replicate (length p.programs) unedited; same = λ g. (unedited_at (length p.programs) g ∙ sym (first_books p.programs g)) }

pub runs_keep_versions : RunsKeepVersions
runs_keep_versions p journal valid = along p valid (start p) journal (map (λ d. uncounted) (audit_tasks p.tasks p.schedule)) (replicate (length p.programs) unedited) (first_place p valid) (first_numbers p)
