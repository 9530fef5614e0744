-- What is seen of a run keeps the law of edits and the law of numbers.
use Rattle.std.proofs.Common.{◌≡◌, ℕ, ◌+◌, Bool, true, false, List, [], ◌∷◌, map, Option, Some, None, refl, sym, ◌∙◌, ap, subst, eq-eqb}
use Rattle.std.specs.Prelude.{Result, Ok, Err, not, ◌&&◌, ◌||◌, is_none, slice_set, slice_index_or}
use Rattle.std.specs.List.{position_from}
use Rattle.std.proofs.lemmas.Bool.{and_from, or_right, false≢true}
use Rattle.spec_base.specs.FirstCause.{◌>>=◌, unless, some_or}
use Rattle.lgx_num.specs.Name.{same}
use Rattle.spec_machine.specs.Commands.{AcceptCommand}
use Rattle.spec_machine.specs.declared.answer.Moment.{Moment}
use Rattle.spec_machine.specs.declared.answer.What.{What}
use Rattle.spec_machine.specs.declared.answer.What.TheVariants as what
use Rattle.spec_machine.specs.declared.reply.EditFault.{EditFault}
use Rattle.spec_machine.specs.declared.reply.EditFault.TheVariants.{E1, E3, E10}
use Rattle.spec_machine.specs.declared.reply.Reply.TheVariants as reply
use Rattle.spec_machine.specs.declared.event.Event.{Event}
use Rattle.spec_machine.specs.declared.event.Event.TheVariants as events
use Rattle.spec_machine.specs.declared.event.Action.{Action}
use Rattle.spec_machine.specs.declared.event.Action.TheVariants as action
use Rattle.spec_machine.specs.Edits.{Book, book_at, Edited, accept, on_accepted, has_accepted, test, untest, assemble, cancel, scope_of, other_owner, none_or}
use Rattle.spec_machine.specs.Project.{Project}
use Rattle.spec_machine.specs.State.{State, start}
use Rattle.spec_machine.specs.Actions.{edit_replied, act}
use Rattle.spec_machine.specs.Machine.{after_action, step}
use Rattle.spec_machine.specs.ProcessorStep.{processor_step}
use Rattle.spec_machine.specs.ValidProject.{IsValidProject}
use Rattle.spec_schedule.specs.declared.trace.Verb.{Verb}
use Rattle.spec_schedule.specs.declared.trace.Verb.TheVariants as verb
use Rattle.spec_schedule.specs.declared.trace.TraceAnswer.TheVariants as answer
use Rattle.spec_schedule.specs.declared.trace.TraceEvent.{TraceEvent}
use Rattle.spec_schedule.specs.declared.trace.TraceEvent.TheVariants.{Act}
use Rattle.spec_schedule.specs.Counting.{Counted, Numbers, unedited, edited_all, CountedEvent}
use Rattle.spec_schedule.specs.TraceView.{step_seen, seen, program_number, answer_of}
use Rattle.spec_reach.proofs.EditNames.{names_of, accepted_parts, is_accepted}
use Rattle.spec_reach.proofs.Reached.{known_at}
use Rattle.spec_legal.specs.LegalRuns.{counted_run}
use Rattle.spec_legal.proofs.Along.{place, IsPlace, counts_next}
use Rattle.spec_legal.proofs.Versions.{HasNumbers, numbers_next, first_numbers}
use Rattle.spec_laws.specs.CountedBack.{each_with_past}
use Rattle.lgx_audit.specs.TraceText.{is_edit}
use Rattle.lgx_laws.specs.Edits.{Owned, owned, owns, may_be_done, may_be_refused, answers_edit, keeps_edits, keeps_numbers}
use Rattle.lgx_laws.proofs.RunsBack.{all_of_run, no_edits}
use Rattle.lgx_laws.proofs.OwnersOn.{Owners, first_owners, owns_it, owns_not, free_or_own, number_is, told_number, no_other, owners_next}

-- ---- the law of edits, at an action

module _ (p : Project) (s : State) (past : List CountedEvent) (owners : Owners s.books past) (names : names_of s.books ≡ map (λ q. q.name) p.programs) (lane : ℕ) (cs : List Counted) (ns : List Numbers) (numbers : HasNumbers p s.books ns) where
  abbrev Keeps : TraceEvent → Type 0
  Keeps e = keeps_edits past (record { tasks = cs; programs = ns; event = e }) ≡ true

  abbrev N : ℕ → Numbers
  N n = slice_index_or ns n unedited

  same_testing : (n : ℕ) → (N n).testing ≡ (book_at s.books n).testing
  same_testing n = ap (λ (x : Numbers). x.testing) (numbers.same n)

  -- what decides of one of the four, on this program
  record Decides (v : Verb) (change : Book → Result Book EditFault) (n : ℕ) (allowed : Bool) : Type 0 where
    may : may_be_done v lane (owned n past) (N n) ≡ (owns lane (owned n past).owner && allowed)
    refuse : may_be_refused v lane (owned n past) (N n) ≡ not (may_be_done v lane (owned n past) (N n) && (owned n past).tested)
    fails : (f : EditFault) → change (book_at s.books n) ≡ Err f → allowed ≡ false
    makes : (c : Book) → change (book_at s.books n) ≡ Ok c → allowed ≡ true

  and_none : (b : Bool) → (b && false) ≡ false
  and_none true = refl
  and_none false = refl

  module _ (v : Verb) (change : Book → Result Book EditFault) (n : ℕ) (allowed : Bool) (d : Decides v change n allowed) where
    abbrev o : Owned
    o = owned n past

    abbrev b : Book
    b = book_at s.books n

    -- it may be refused if one of the three is missing
    may_refuse : (x y z : Bool) → owns lane o.owner ≡ x → allowed ≡ y → o.tested ≡ z → ((x && y) && z) ≡ false → answers_edit v lane o (N n) answer.No ≡ true
    may_refuse x y z own all tested none =
        d.refuse
        ∙ (ap (λ w. not (w && o.tested)) d.may
        ∙ (ap (λ w. not ((w && allowed) && o.tested)) own ∙ (ap (λ w. not ((x && w) && o.tested)) all ∙ (ap (λ w. not ((x && y) && w)) tested ∙ ap not none))))

    change_case : (w : Option ℕ) (has : Bool) (r : Result Book EditFault) → other_owner b lane ≡ w → has_accepted b ≡ has → change b ≡ r → answers_edit v lane o (N n) (answer_of (edit_replied s (none_or w E3 >>= λ _. (unless has E10 >>= λ _. (r >>= λ c. Ok (record { books = slice_set s.books n c; reply = reply.Done }))))).answer.reply) ≡ true
    change_case (Some u) has r other there made = may_refuse false allowed o.tested (ap (owns lane) (owners n).owner ∙ owns_not lane u b.owner other) refl refl refl
    change_case None false r other there made = go o.tested refl
      where
        go : (t : Bool) → o.tested ≡ t → answers_edit v lane o (N n) answer.No ≡ true
        go true e = absurd (false≢true (sym there ∙ (owners n).tested e))
        go false e = may_refuse (owns lane o.owner) allowed false refl refl e (and_none _)
    change_case None true (Err f) other there made =
        may_refuse (owns lane o.owner) false o.tested refl (d.fails f made) refl (ap (λ w. w && o.tested) (and_none (owns lane o.owner)))
    change_case None true (Ok c) other there made =
        d.may ∙ and_from (owns lane o.owner) _ (ap (owns lane) (owners n).owner ∙ owns_it lane b.owner other ((owners n).some there)) (d.makes c made)

  named_case : (v : Verb) (change : Book → Result Book EditFault) (allowed : ℕ → Bool) → ((n : ℕ) → Decides v change n (allowed n)) → (w : Option ℕ) (mask : ℕ) → Keeps (Act lane v w (answer_of (edit_replied s (some_or w E1 >>= λ n. (none_or (other_owner (book_at s.books n) lane) E3 >>= λ _. (unless (has_accepted (book_at s.books n)) E10 >>= λ _. (change (book_at s.books n) >>= λ c. Ok (record { books = slice_set s.books n c; reply = reply.Done })))))).answer.reply) mask)
  named_case v change allowed d None mask = or_right (not (is_edit v)) _ refl
  named_case v change allowed d (Some n) mask =
      or_right (not (is_edit v)) _
      (change_case v change n (allowed n) (d n) (other_owner (book_at s.books n) lane) (has_accepted (book_at s.books n)) (change (book_at s.books n)) refl refl refl)

  four_keep : (v : Verb) (name : List ℕ) (change : Book → Result Book EditFault) (allowed : ℕ → Bool) → ((n : ℕ) → Decides v change n (allowed n)) → (mask : ℕ) → Keeps (Act lane v (program_number p.programs (Some name)) (answer_of (edit_replied s (on_accepted change s.books lane name)).answer.reply) mask)
  four_keep v name change allowed d mask =
      subst (λ (w : Option ℕ). Keeps (Act lane v w (answer_of (edit_replied s (on_accepted change s.books lane name)).answer.reply) mask)) (sym (number_is p s past owners names lane name))
      (named_case v change allowed d (position_from (λ (b : Book). same b.name name) 0 s.books) mask)

  test_decides : (n : ℕ) → Decides verb.Test test n (not (book_at s.books n).testing)
  test_decides n = record {
    may = ap (λ b. owns lane (owned n past).owner && not b) (same_testing n);
    refuse = refl;
    fails = λ f e. fails (book_at s.books n).testing f e;
    makes = λ c e. makes (book_at s.books n).testing c e;
  }
    where
      fails : (t : Bool) (f : EditFault) → test (record (book_at s.books n) { testing = t }) ≡ Err f → not t ≡ false
      fails true f e = refl
      fails false f e = absurd (cc e)

      makes : (t : Bool) (c : Book) → test (record (book_at s.books n) { testing = t }) ≡ Ok c → not t ≡ true
      makes true c e = absurd (cc e)
      makes false c e = refl

  untest_decides : (n : ℕ) → Decides verb.Untest untest n (book_at s.books n).testing
  untest_decides n = record {
    may = ap (λ b. owns lane (owned n past).owner && b) (same_testing n);
    refuse = refl;
    fails = λ f e. fails (book_at s.books n).testing f e;
    makes = λ c e. makes (book_at s.books n).testing c e;
  }
    where
      fails : (t : Bool) (f : EditFault) → untest (record (book_at s.books n) { testing = t }) ≡ Err f → t ≡ false
      fails true f e = absurd (cc e)
      fails false f e = refl

      makes : (t : Bool) (c : Book) → untest (record (book_at s.books n) { testing = t }) ≡ Ok c → t ≡ true
      makes true c e = refl
      makes false c e = absurd (cc e)

  and_all : (b : Bool) → b ≡ (b && true)
  and_all true = refl
  and_all false = refl

  assemble_decides : (n : ℕ) → Decides verb.Assemble assemble n true
  assemble_decides n = record { may = and_all (owns lane (owned n past).owner); refuse = refl; fails = λ f e. absurd (cc e); makes = λ c e. refl }

  cancel_decides : (n : ℕ) → Decides verb.Cancel cancel n true
  cancel_decides n = record { may = and_all (owns lane (owned n past).owner); refuse = refl; fails = λ f e. absurd (cc e); makes = λ c e. refl }

  -- an accept
  accept_keep : (c : AcceptCommand) (mask : ℕ) (r : Result Edited EditFault) → accept s.plan.tags s.plan.names s.books lane c ≡ r → Keeps (Act lane verb.Accept (program_number p.programs (Some c.program)) (answer_of (edit_replied s r).answer.reply) mask)
  accept_keep c mask (Err f) is = go (program_number p.programs (Some c.program))
    where
      go : (w : Option ℕ) → Keeps (Act lane verb.Accept w answer.No mask)
      go None = refl
      go (Some n) = refl
  accept_keep c mask (Ok e) is =
      let a = is_accepted s.plan.tags s.plan.names s.books lane c e is in
      let b = book_at s.books a.number in
      let other = no_other (scope_of s.plan.tags s.plan.names a.number b) lane a.routine c.edits b a.book a.accepted in
      subst (λ (y : Edited). Keeps (Act lane verb.Accept (program_number p.programs (Some c.program)) (answer_of (edit_replied s (Ok y)).answer.reply) mask)) a.result
      (subst (λ (w : Option ℕ). Keeps (Act lane verb.Accept w (answer.Number a.book.newest) mask)) (sym (told_number p s past owners names lane c.program a.number a.named))
      (ap (λ w. is_none w || owns lane w) (owners a.number).owner ∙ free_or_own lane b.owner other))

  action_keeps : (a : Action) → Keeps (seen p (after_action lane a (act s lane a)).answer)
  action_keeps (action.Accept c) = let r = accept s.plan.tags s.plan.names s.books lane c in accept_keep c (edit_replied s r).answer.released r refl
  action_keeps (action.Test n) = four_keep verb.Test n test _ test_decides (act s lane (action.Test n)).answer.released
  action_keeps (action.Untest n) = four_keep verb.Untest n untest _ untest_decides (act s lane (action.Untest n)).answer.released
  action_keeps (action.Assemble n) = four_keep verb.Assemble n assemble _ assemble_decides (act s lane (action.Assemble n)).answer.released
  action_keeps (action.Cancel n) = four_keep verb.Cancel n cancel _ cancel_decides (act s lane (action.Cancel n)).answer.released
  action_keeps (action.WordIn conn word v) = refl
  action_keeps (action.WordOut conn word) = refl
  action_keeps (action.ForceInstall conn word mask v) = refl
  action_keeps action.ForceEnable = refl
  action_keeps action.ForceDisable = refl
  action_keeps action.ForceRemove = refl
  action_keeps action.ModeRun = refl
  action_keeps action.ModeProgram = refl
  action_keeps action.Clear = refl

  -- ---- the law of numbers

  abbrev Counts : TraceEvent → Type 0
  Counts e = keeps_numbers (record { tasks = cs; programs = ns; event = e }) ≡ true

  accept_counts : (c : AcceptCommand) (mask : ℕ) (r : Result Edited EditFault) → accept s.plan.tags s.plan.names s.books lane c ≡ r → Counts (Act lane verb.Accept (program_number p.programs (Some c.program)) (answer_of (edit_replied s r).answer.reply) mask)
  accept_counts c mask (Err f) is = go (program_number p.programs (Some c.program))
    where
      go : (w : Option ℕ) → Counts (Act lane verb.Accept w answer.No mask)
      go None = refl
      go (Some n) = refl
  accept_counts c mask (Ok e) is =
      let a = is_accepted s.plan.tags s.plan.names s.books lane c e is in
      let b = book_at s.books a.number in
      let parts = accepted_parts (scope_of s.plan.tags s.plan.names a.number b) lane a.routine c.edits b a.book a.accepted in
      subst (λ (y : Edited). Counts (Act lane verb.Accept (program_number p.programs (Some c.program)) (answer_of (edit_replied s (Ok y)).answer.reply) mask)) a.result
      (subst (λ (w : Option ℕ). Counts (Act lane verb.Accept w (answer.Number a.book.newest) mask)) (sym (told_number p s past owners names lane c.program a.number a.named))
      (eq-eqb a.book.newest _ (sym (ap (λ (x : Book). x.newest) parts.2) ∙ ap (λ (x : Numbers). x.merged + 1) (sym (numbers.same a.number)))))

  action_counts : (a : Action) → Counts (seen p (after_action lane a (act s lane a)).answer)
  action_counts (action.Accept c) = let r = accept s.plan.tags s.plan.names s.books lane c in accept_counts c (edit_replied s r).answer.released r refl
  action_counts (action.Test n) = refl
  action_counts (action.Untest n) = refl
  action_counts (action.Assemble n) = refl
  action_counts (action.Cancel n) = refl
  action_counts (action.WordIn conn word v) = refl
  action_counts (action.WordOut conn word) = refl
  action_counts (action.ForceInstall conn word mask v) = refl
  action_counts action.ForceEnable = refl
  action_counts action.ForceDisable = refl
  action_counts action.ForceRemove = refl
  action_counts action.ModeRun = refl
  action_counts action.ModeProgram = refl
  action_counts action.Clear = refl

-- ---- nothing is asked of a processor step

step_keeps : (cs : List Counted) (ns : List Numbers) (past : List CountedEvent) (m : Moment) (w : What) → keeps_edits past (record { tasks = cs; programs = ns; event = step_seen m w }) ≡ true
step_keeps cs ns past m what.Idle = refl
step_keeps cs ns past m (what.Began t n v) = refl
step_keeps cs ns past m (what.Ran t n) = refl
step_keeps cs ns past m (what.Copied t n) = refl
step_keeps cs ns past m (what.Left t n ended) = refl

step_counts : (cs : List Counted) (ns : List Numbers) (m : Moment) (w : What) → keeps_numbers (record { tasks = cs; programs = ns; event = step_seen m w }) ≡ true
step_counts cs ns m what.Idle = refl
step_counts cs ns m (what.Began t n v) = refl
step_counts cs ns m (what.Ran t n) = refl
step_counts cs ns m (what.Copied t n) = refl
step_counts cs ns m (what.Left t n ended) = refl

-- ---- along a run

module _ (p : Project) (valid : IsValidProject p) where
  -- the books' numbers and owners are told
  abbrev HasBooks : State → List Counted → List Numbers → List CountedEvent → Type 0
  HasBooks s cs ns past = HasNumbers p s.books ns × Owners s.books past

  books_next : (s : State) (e : Event) (cs : List Counted) (ns : List Numbers) (past : List CountedEvent) → IsPlace p s cs → HasBooks s cs ns past → HasBooks (step s e).state (counts_next p valid s e cs) (edited_all (seen p (step s e).answer) ns) (place p s cs ns e ∷ past)
  books_next s e cs ns past h k = (numbers_next p valid s e cs ns h k.0, owners_next p s e cs ns past h k.1)

  edits_here : (s : State) (e : Event) (cs : List Counted) (ns : List Numbers) (past : List CountedEvent) → IsPlace p s cs → HasBooks s cs ns past → keeps_edits past (place p s cs ns e) ≡ true
  edits_here s events.Cpu cs ns past h k = step_keeps cs ns past (processor_step s).answer (processor_step s).answer.what
  edits_here s events.Tick cs ns past h k = refl
  edits_here s (events.Act lane a) cs ns past h k = action_keeps p s past k.1 (known_at p s h.reached).sizes.names lane cs ns k.0 a

  numbers_here : (s : State) (e : Event) (cs : List Counted) (ns : List Numbers) (past : List CountedEvent) → IsPlace p s cs → HasBooks s cs ns past → keeps_numbers (place p s cs ns e) ≡ true
  numbers_here s events.Cpu cs ns past h k = step_counts cs ns (processor_step s).answer (processor_step s).answer.what
  numbers_here s events.Tick cs ns past h k = refl
  numbers_here s (events.Act lane a) cs ns past h k = action_counts p s past k.1 (known_at p s h.reached).sizes.names lane cs ns k.0 a

  first_books : HasNumbers p (start p).books (no_edits p) × Owners (start p).books []
  first_books = (first_numbers p, λ g. first_owners p.programs g)

  pub runs_keep_edits : (journal : List Event) → each_with_past keeps_edits [] (counted_run p journal) ≡ true
  runs_keep_edits journal = all_of_run p valid HasBooks keeps_edits books_next edits_here first_books journal

  pub runs_keep_numbers : (journal : List Event) → each_with_past (λ past x. keeps_numbers x) [] (counted_run p journal) ≡ true
  runs_keep_numbers journal = all_of_run p valid HasBooks (λ past x. keeps_numbers x) books_next numbers_here first_books journal
