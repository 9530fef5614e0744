-- A session is a journal, and its report.
use Rattle.std.proofs.Common.{◌≡◌, ℕ, ◌+◌, ◌-◌, ◌*◌, ◌≤◌, List, [], ◌∷◌, ◌++◌, length, map, take, replicate, count_by, Bool, true, false, cond, ◌&&◌, ◌||◌, nat_le, nat_lt, Option, Some, None, Result, Ok, Err, refl, sym, ap, ◌∙◌, subst, append_assoc, append-nil, true≢false, arith}
use Rattle.std.specs.Prelude.{flat_map, codes}
use Rattle.std.specs.List.{list_any}
use Rattle.std.proofs.lemmas.Bool.{and_from, le-leb}
use Rattle.std.proofs.lemmas.List.{take_all}
use Rattle.std.proofs.lemmas.List.Folds.{flat_map-map, sum_by-replicate}
use Rattle.std.proofs.lemmas.List.Sums.{sum_by-append}
use Rattle.spec_base.specs.FirstCause.{◌>>=◌, unless, some_or}
use Rattle.spec_base.specs.declared.limits.TheConstants.{MAX_ACTIONS, MAX_EVENTS, MAX_JOURNAL_STEPS, MAX_REPORT_LINES}
use Rattle.spec_machine.specs.declared.event.Event.{Event}
use Rattle.spec_machine.specs.Events.{is_step, is_tick, is_action}
use Rattle.spec_machine.specs.Project.{Project}
use Rattle.spec_machine.specs.Machine.{run}
use Rattle.spec_machine.specs.Report.{Stamped, report_lines, steps_of}
use Rattle.spec_text.specs.declared.script.EventRun.{EventRun}
use Rattle.spec_text.specs.declared.script.JournalCode.{JournalCode}
use Rattle.spec_text.specs.declared.script.JournalCode.TheVariants.{J1, J2, J4}
use Rattle.spec_text.specs.declared.script.JournalFault.{JournalFault}
use Rattle.spec_text.specs.TextLines.{is_skipped}
use Rattle.spec_text.specs.JournalText.{Tally, IsWithin, is_allowed, is_lane, is_line, lane_of, no_events, read_line, run_of, runs_from, with_run, all_events}
use Rattle.spec_text.specs.ReportText.{names_of, line_text, end_text, report}
use Rattle.spec_text.proofs.WithinLimits.{of_steps, of_ticks, of_actions}
use Rattle.lgx_journal.specs.Reading.{after_events}
use Rattle.lgx_journal.proofs.ReadRuns.{line_ends, line_read}
use Rattle.lgx_live.specs.Session.{Point, Meaning, Skipped, Refused, Done, LiveLine, Reported, NotDone, unless_skipped, run_asked, meaning, events_done, no_line_yet, after, after_all, answer_to, answer, answers, lines_with, is_last}
use Rattle.lgx_live.specs.Output.{live_line, last_line}
use Rattle.lgx_live.specs.Laws.{with_done, done_from, session_events, reported, SessionsAreJournals}
use Rattle.lgx_live.proofs.Texts.{lines_with_both}

-- ---- the events of a session

-- those that come with more lines
abbrev events_with : List Event → List (List ℕ) → List Event
events_with es [] = []
events_with es (l ∷ ls) = events_done (meaning es l) ++ events_with (es ++ events_done (meaning es l)) ls

all_events_with : (at : Point) (lines : List (List ℕ)) → (after_all at lines).events ≡ at.events ++ events_with at.events lines
all_events_with at [] = sym (append-nil at.events)
all_events_with at (l ∷ ls) =
    let new = events_done (meaning at.events l) in
    all_events_with (after at l) ls ∙ append_assoc at.events new (events_with (at.events ++ new) ls)

-- ---- the report

reported_both : (xs ys : List LiveLine) → reported (xs ++ ys) ≡ reported xs ++ reported ys
reported_both [] ys = refl
reported_both (Reported line ∷ xs) ys = ap (λ (t : List Stamped). line ∷ t) (reported_both xs ys)
reported_both (NotDone fault ∷ xs) ys = reported_both xs ys

all_reported : (lines : List Stamped) → reported (map Reported lines) ≡ lines
all_reported [] = refl
all_reported (line ∷ lines) = ap (λ (t : List Stamped). line ∷ t) (all_reported lines)

answer_reported : (project : Project) (at : Point) (m : Meaning) → reported (answer_to project at m) ≡ lines_with project at.events (events_done m)
answer_reported project at Skipped = refl
answer_reported project at (Refused code) = refl
answer_reported project at (Done r) = all_reported (lines_with project at.events (replicate r.count r.event))

answers_reported : (project : Project) (at : Point) (lines : List (List ℕ)) → reported (answers project at lines) ≡ lines_with project at.events (events_with at.events lines)
answers_reported project at [] = refl
answers_reported project at (l ∷ ls) =
    let new = events_done (meaning at.events l) in
    let later = lines_with project (at.events ++ new) (events_with (at.events ++ new) ls) in
    reported_both (answer project at l) (answers project (after at l) ls)
    ∙ ap (λ (t : List Stamped). t ++ reported (answers project (after at l) ls)) (answer_reported project at (meaning at.events l))
    ∙ ap (λ (t : List Stamped). lines_with project at.events new ++ t) (answers_reported project (after at l) ls)
    ∙ sym (lines_with_both project at.events new (events_with (at.events ++ new) ls))

session_reported : (project : Project) (lines : List (List ℕ)) → reported (answers project no_line_yet lines) ≡ report_lines project (session_events lines)
session_reported project lines = answers_reported project no_line_yet lines ∙ ap (lines_with project []) (sym (all_events_with no_line_yet lines))

report_uncut : (project : Project) (events : List Event) (lines : List Stamped) → lines ≡ report_lines project events → length (report_lines project events) ≤ MAX_REPORT_LINES
    → report project events ≡ flat_map (live_line (names_of project)) (map Reported lines) ++ last_line project events
report_uncut project events lines is few =
    let all = report_lines project events in
    let kept : take MAX_REPORT_LINES all ≡ lines = take_all MAX_REPORT_LINES all few ∙ sym is in
    let lost : length all - MAX_REPORT_LINES ≡ 0 = omega (arith, few) in
    ap (λ (l : List Stamped). flat_map (line_text (names_of project)) l ++ end_text (run project events).tick (steps_of events) (run project events).mode (length all - MAX_REPORT_LINES)) kept
    ∙ ap (λ n. flat_map (line_text (names_of project)) lines ++ end_text (run project events).tick (steps_of events) (run project events).mode n) lost
    ∙ ap (λ t. t ++ last_line project events) (sym (flat_map-map (live_line (names_of project)) Reported lines))

-- ---- the journal

-- a line that could be alone can come after these
abbrev reading : Bool → Option EventRun → Bool → (EventRun → Bool) → Result EventRun JournalCode
reading line run lane allowed = do
  _ ← unless line J1
  r ← some_or run J1
  _ ← unless lane J2
  _ ← unless (nat_lt 0 r.count && allowed r) J4
  Ok r

abbrev run_in : EventRun → Result EventRun JournalCode → EventRun
run_in other (Ok r) = r
run_in other (Err code) = other

abbrev run_if : Bool → EventRun → Result EventRun JournalCode
run_if b x = do
  _ ← unless b J4
  Ok x

run_tested : (x r : EventRun) (a b : Bool) → (x ≡ r → b ≡ true) → run_if a x ≡ Ok r → run_if b x ≡ Ok r
run_tested x r false b k h = absurd (cc h)
run_tested x r true b k h = ap (λ c. run_if c x) (k (ap (run_in x) h)) ∙ h

same_run : (x r : EventRun) (c : Bool) (p q : EventRun → Bool) → run_if (c && p x) x ≡ Ok r → q r ≡ true → run_if (c && q x) x ≡ Ok r
same_run x r false p q h k = absurd (cc h)
same_run x r true p q h k = run_tested x r (p x) (q x) (λ e. ap q e ∙ k) h

reads_on : (line : Bool) (run : Option EventRun) (lane : Bool) (p q : EventRun → Bool) (r : EventRun) → reading line run lane p ≡ Ok r → q r ≡ true → reading line run lane q ≡ Ok r
reads_on false run lane p q r h k = absurd (cc h)
reads_on true None lane p q r h k = absurd (cc h)
reads_on true (Some x) false p q r h k = absurd (cc h)
reads_on true (Some x) true p q r h k = same_run x r (nat_lt 0 x.count) p q h k

read_after : (t : Tally) (line : List ℕ) (r : EventRun) → read_line no_events line ≡ Ok r → is_allowed (with_run t r) ≡ true → read_line t line ≡ Ok r
read_after t line r h k = reads_on (is_line line) (run_of line) (is_lane (lane_of line)) (λ r. is_allowed (with_run no_events r)) (λ r. is_allowed (with_run t r)) r h k

-- what was done was read
abbrev within : List Event → Result EventRun JournalCode → Result EventRun JournalCode
within events read = do
  x ← read
  _ ← unless (nat_le (length events + x.count) MAX_EVENTS) J4
  Ok x

run_kept : (x r : EventRun) (b : Bool) → run_if b x ≡ Ok r → x ≡ r
run_kept x r false h = absurd (cc h)
run_kept x r true h = ap (run_in x) h

within_controller : (events : List Event) (read : Result EventRun JournalCode) (r : EventRun) → within events read ≡ Ok r → read ≡ Ok r
within_controller events (Err code) r h = absurd (cc h)
within_controller events (Ok x) r h = ap (λ (y : EventRun). Ok y) (run_kept x r (nat_le (length events + x.count) MAX_EVENTS) h)

-- room for more events
record Room (t : Tally) (es : List Event) : Type 0 where
  pub steps : t.steps + count_by is_step es ≤ MAX_JOURNAL_STEPS
  pub ticks : t.ticks + count_by is_tick es ≤ MAX_JOURNAL_STEPS
  pub actions : t.actions + count_by is_action es ≤ MAX_ACTIONS

counts : (p : Event → Bool) (r : EventRun) (es : List Event) → count_by p (replicate r.count r.event ++ es) ≡ r.count * cond (p r.event) 1 0 + count_by p es
counts p r es = sum_by-append (λ x. cond (p x) 1 0) (replicate r.count r.event) es ∙ ap (λ n. n + count_by p es) (sum_by-replicate (λ x. cond (p x) 1 0) r.count r.event)

part_left : (a b c k d most : ℕ) → b ≡ a + k → c ≡ k + d → a + c ≤ most → b + d ≤ most
part_left a b c k d most e f h = omega arith

room_left : (t : Tally) (r : EventRun) (es : List Event) → Room t (replicate r.count r.event ++ es) → Room (with_run t r) es
room_left t r es room = record {
  steps = part_left t.steps (with_run t r).steps (count_by is_step (replicate r.count r.event ++ es)) (r.count * cond (is_step r.event) 1 0) (count_by is_step es) MAX_JOURNAL_STEPS (of_steps t r.event r.count) (counts is_step r es) room.steps;
  ticks = part_left t.ticks (with_run t r).ticks (count_by is_tick (replicate r.count r.event ++ es)) (r.count * cond (is_tick r.event) 1 0) (count_by is_tick es) MAX_JOURNAL_STEPS (of_ticks t r.event r.count) (counts is_tick r es) room.ticks;
  actions = part_left t.actions (with_run t r).actions (count_by is_action (replicate r.count r.event ++ es)) (r.count * cond (is_action r.event) 1 0) (count_by is_action es) MAX_ACTIONS (of_actions t r.event r.count) (counts is_action r es) room.actions;
}

below : (a b most : ℕ) → a + b ≤ most → nat_le a most ≡ true
below a b most h = le-leb a most (omega arith)

room_allows : (t : Tally) (es : List Event) → Room t es → is_allowed t ≡ true
room_allows t es room =
    and_from (nat_le t.steps MAX_JOURNAL_STEPS && nat_le t.ticks MAX_JOURNAL_STEPS) (nat_le t.actions MAX_ACTIONS)
    (and_from (nat_le t.steps MAX_JOURNAL_STEPS) (nat_le t.ticks MAX_JOURNAL_STEPS) (below t.steps (count_by is_step es) MAX_JOURNAL_STEPS room.steps) (below t.ticks (count_by is_tick es) MAX_JOURNAL_STEPS room.ticks))
    (below t.actions (count_by is_action es) MAX_ACTIONS room.actions)

or_parts : (a b : Bool) → (a || b) ≡ false → (a ≡ false) × (b ≡ false)
or_parts true b h = absurd (true≢false h)
or_parts false b h = (refl, h)

abbrev end_line : List ℕ
end_line = codes "end"

-- the lines that were done, read as those of a journal
module _ (l : List ℕ) (ls : List (List ℕ)) (es : List Event) (n : ℕ) (t : Tally) (open_line : is_last l ≡ false)
    (rest : (es : List Event) (n : ℕ) (t : Tally) → Room t (events_with es ls) → after_events es (runs_from n t (done_from es ls ++ end_line ∷ [])) ≡ Ok (es ++ events_with es ls)) where
  not_done : (new : List Event) → new ≡ [] → Room t (new ++ events_with (es ++ new) ls) → after_events es (runs_from n t (done_from (es ++ new) ls ++ end_line ∷ [])) ≡ Ok (es ++ (new ++ events_with (es ++ new) ls))
  not_done new none =
      let same : [] ≡ new = sym none in
      let none_more : es ≡ es ++ [] = sym (append-nil es) in
      let P : List Event → Type 0 = λ m. Room t (m ++ events_with (es ++ m) ls) → after_events es (runs_from n t (done_from (es ++ m) ls ++ end_line ∷ [])) ≡ Ok (es ++ (m ++ events_with (es ++ m) ls)) in
      let Q : List Event → Type 0 = λ x. Room t (events_with x ls) → after_events es (runs_from n t (done_from x ls ++ end_line ∷ [])) ≡ Ok (es ++ events_with x ls) in
      subst P same (subst Q none_more (rest es n t))

  by_meaning : (skipped : Bool) (read : Result EventRun JournalCode) → is_skipped l ≡ skipped → run_asked es l ≡ read
      → let m = unless_skipped skipped read in Room t (events_done m ++ events_with (es ++ events_done m) ls) → after_events es (runs_from n t (with_done m l (done_from (es ++ events_done m) ls) ++ end_line ∷ [])) ≡ Ok (es ++ (events_done m ++ events_with (es ++ events_done m) ls))
  by_meaning true read s d room = not_done [] refl room
  by_meaning false (Err code) s d room = not_done [] refl room
  by_meaning false (Ok r) s d room =
      let new = replicate r.count r.event in
      let later = done_from (es ++ new) ls ++ end_line ∷ [] in
      let left = room_left t r (events_with (es ++ new) ls) room in
      let read = read_after t l r (within_controller es (read_line no_events l) r d) (room_allows (with_run t r) (events_with (es ++ new) ls) left) in
      line_read es n t l later (l ∷ later) r refl s open_line read
      ∙ rest (es ++ new) (n + 1) (with_run t r) left
      ∙ ap (λ (x : List Event). Ok x) (append_assoc es new (events_with (es ++ new) ls))

reads_back : (lines : List (List ℕ)) (es : List Event) (n : ℕ) (t : Tally) → list_any is_last lines ≡ false → Room t (events_with es lines) → after_events es (runs_from n t (done_from es lines ++ end_line ∷ [])) ≡ Ok (es ++ events_with es lines)
reads_back [] es n t h room = line_ends es n t (codes "end") [] (codes "end" ∷ []) refl refl refl ∙ ap (λ (x : List Event). Ok x) (sym (append-nil es))
reads_back (l ∷ ls) es n t h room =
    let both = or_parts (is_last l) (list_any is_last ls) h in
    by_meaning l ls es n t both.0 (λ es n t room. reads_back ls es n t both.1 room) (is_skipped l) (run_asked es l) refl refl room

no_event_before : (r : Result (List EventRun) JournalFault) → after_events [] r ≡ all_events r
no_event_before (Err fault) = refl
no_event_before (Ok runs) = refl

pub sessions_are_journals : SessionsAreJournals
sessions_are_journals project lines bytes open_lines limits is =
    let all : session_events lines ≡ events_with [] lines = all_events_with no_line_yet lines in
    let inside = subst (λ (x : List Event). IsWithin x) all limits in
    let room : Room no_events (events_with [] lines) = record {
      steps = omega (arith, inside.steps);
      ticks = omega (arith, inside.ticks);
      actions = omega (arith, inside.actions);
    } in
    record {
      journal =
          ap (λ (l : List (List ℕ)). all_events (runs_from 1 no_events l)) is
          ∙ sym (no_event_before (runs_from 1 no_events (done_from [] lines ++ codes "end" ∷ [])))
          ∙ reads_back lines [] 1 no_events open_lines room
          ∙ ap (λ (x : List Event). Ok x) (sym all);
      report = λ few. report_uncut project (session_events lines) (reported (answers project no_line_yet lines)) (session_reported project lines) few;
    }
