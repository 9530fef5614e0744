-- The text of runs has one reading, and within the limits it is read back.
use Rattle.std.proofs.Common.{◌≡◌, ℕ, ◌+◌, ◌<◌, ◌≤◌, List, [], ◌∷◌, ◌++◌, map, Bool, true, false, cond, ◌&&◌, ◌||◌, not, Result, Ok, Err, Option, Some, None, count_by, nat_lt, nat_le, nat_eq, codes, refl, sym, ap, subst, ◌∙◌, append_assoc, arith, true≢false}
use Rattle.std.specs.List.{list_all}
use Rattle.std.proofs.lemmas.Bool.{and_from, and_parts, le-leb, lt-ltb, leb-true}
use Rattle.spec_base.specs.declared.limits.TheConstants.{MAX_JOURNAL_STEPS, MAX_ACTIONS}
use Rattle.spec_base.specs.FirstCause.{◌>>=◌, unless, some_or}
use Rattle.spec_machine.specs.declared.event.Event.{Event}
use Rattle.spec_machine.specs.declared.event.Event.TheVariants.{Cpu, Tick, Act}
use Rattle.spec_machine.specs.Events.{is_step, is_tick, is_action}
use Rattle.spec_text.specs.declared.script.EventRun.{EventRun}
use Rattle.spec_text.specs.declared.script.JournalCode.{JournalCode}
use Rattle.spec_text.specs.declared.script.JournalCode.TheVariants.{J1, J2, J4}
use Rattle.spec_text.specs.declared.script.JournalFault.{JournalFault}
use Rattle.spec_text.specs.TextLines.{is_skipped, lines, spaced, line_of}
use Rattle.spec_text.specs.JournalText.{Tally, IsWithin, event_words, events_of, runs_on, before_runs, joined, run_of, lane_of, is_end, is_lane, is_line, with_run, is_allowed, no_events, read_line, before_rest, refused, runs_from, all_events, journal_of, text}
use Rattle.spec_text.proofs.JoinedRuns.{same_event, runs_expand}
use Rattle.spec_text.proofs.WithinLimits.{counted, of_steps, of_ticks, of_actions}
use Rattle.lgx_journal.specs.Journals.{is_run}
use Rattle.lgx_journal.specs.Written.{is_kept_run, has_lane, is_placed, is_written, AreWritten, runs_text, IsReadable}
use Rattle.lgx_journal.proofs.LineSplits.{lines_split, no_return}
use Rattle.lgx_journal.proofs.LinesBack.{IsReadLine, line_back}
use Rattle.lgx_journal.proofs.SafeLines.{safe_line}
use Rattle.lgx_journal.proofs.Spelled.{piece_before}

-- ---- the lines of a text

abbrev run_line : EventRun → List ℕ
run_line r = spaced (event_words r.event r.count)

abbrev run_lines : List EventRun → List (List ℕ)
run_lines rs = map run_line rs ++ codes "end" ∷ []

text_more : (r : EventRun) (rs : List EventRun) → runs_text (r ∷ rs) ≡ run_line r ++ 10 ∷ runs_text rs
text_more r rs = simp append_assoc

lines_of_runs : (rs : List EventRun) → list_all is_written rs ≡ true → lines (runs_text rs) ≡ run_lines rs
lines_of_runs [] h = refl
lines_of_runs (r ∷ rs) h =
    let two = and_parts (is_written r) (list_all is_written rs) h in
    let safe = safe_line r two.0 in
    ap lines (text_more r rs)
    ∙ lines_split (run_line r ++ 10 ∷ runs_text rs) (run_line r) (runs_text rs) (piece_before 10 (run_line r) (runs_text rs) safe.feed)
    ∙ ap (λ l. l ∷ lines (runs_text rs)) (no_return (run_line r) safe.back)
    ∙ ap (λ ls. run_line r ∷ ls) (lines_of_runs rs two.1)

-- ---- one reading

-- the runs before the first line that says none
abbrev until_none : List (Option EventRun) → List EventRun
until_none [] = []
until_none (None ∷ os) = []
until_none (Some r ∷ os) = r ∷ until_none os

runs_read : (rs : List EventRun) → list_all is_written rs ≡ true → until_none (map run_of (run_lines rs)) ≡ rs
runs_read [] h = refl
runs_read (r ∷ rs) h =
    let two = and_parts (is_written r) (list_all is_written rs) h in
    ap (λ o. until_none (o ∷ map run_of (run_lines rs))) (line_back r two.0).run ∙ ap (λ qs. r ∷ qs) (runs_read rs two.1)

text_read : (rs : List EventRun) → list_all is_written rs ≡ true → until_none (map run_of (lines (runs_text rs))) ≡ rs
text_read rs h = ap (λ ls. until_none (map run_of ls)) (lines_of_runs rs h) ∙ runs_read rs h

pub one_reading : (rs qs : List EventRun) → AreWritten rs → AreWritten qs → runs_text rs ≡ runs_text qs → rs ≡ qs
one_reading rs qs h k e = sym (text_read rs h) ∙ ap (λ t. until_none (map run_of (lines t))) e ∙ text_read qs k

pub line_reading : (r q : EventRun) → is_written r ≡ true → is_written q ≡ true → line_of (event_words q.event q.count) ≡ line_of (event_words r.event r.count) → q ≡ r
line_reading r q h k e =
    let one : q ∷ [] ≡ r ∷ [] = one_reading (q ∷ []) (r ∷ []) (and_from _ _ k refl) (and_from _ _ h refl) (ap (λ t. (t ++ []) ++ codes "end" ++ 10 ∷ []) e) in
    cc

-- ---- the runs in which a journal is written

once : (e : Event) → has_lane e ≡ true → is_placed (record { event = e; count = 1 }) ≡ true
once Cpu h = refl
once Tick h = refl
once (Act lane a) h = and_from _ _ h refl

more : (e : Event) (r : EventRun) → runs_on e r.event ≡ true → is_placed (record r { count = r.count + 1 }) ≡ true
more e r on = by_event e (sym (same_event e r.event on)) on
  where
    some : nat_le 1 (r.count + 1) ≡ true
    some = le-leb 1 (r.count + 1) (omega arith)

    by_event : (x : Event) → x ≡ r.event → runs_on x r.event ≡ true → is_placed (record { event = r.event; count = r.count + 1 }) ≡ true
    by_event Cpu is on = subst (λ (y : Event). is_placed (record { event = y; count = r.count + 1 }) ≡ true) is (and_from _ _ some refl)
    by_event Tick is on = subst (λ (y : Event). is_placed (record { event = y; count = r.count + 1 }) ≡ true) is (and_from _ _ some refl)
    by_event (Act lane a) is on = absurd (true≢false (sym on))

placed : (es : List Event) → list_all has_lane es ≡ true → list_all is_placed (joined es) ≡ true
placed [] h = refl
placed (e ∷ es) h =
    let two = and_parts (has_lane e) (list_all has_lane es) h in
    before (joined es) (placed es two.1) two.0
  where
    by_case : (r : EventRun) (rs : List EventRun) (b : Bool) → runs_on e r.event ≡ b → list_all is_placed (r ∷ rs) ≡ true → has_lane e ≡ true
        → list_all is_placed (cond b (record r { count = r.count + 1 } ∷ rs) (record { event = e; count = 1 } ∷ r ∷ rs)) ≡ true
    by_case r rs true on k l = and_from _ _ (more e r on) (and_parts (is_placed r) (list_all is_placed rs) k).1
    by_case r rs false on k l = and_from _ _ (once e l) k

    before : (rs : List EventRun) → list_all is_placed rs ≡ true → has_lane e ≡ true → list_all is_placed (before_runs e rs) ≡ true
    before [] k l = and_from _ _ (once e l) refl
    before (r ∷ rs) k l = by_case r rs (runs_on e r.event) refl k l

written : (rs : List EventRun) → list_all is_kept_run rs ≡ true → list_all is_placed rs ≡ true → list_all is_written rs ≡ true
written [] h k = refl
written (r ∷ rs) h k =
    let kept = and_parts (is_kept_run r) (list_all is_kept_run rs) h in
    let rest = and_parts (is_placed r) (list_all is_placed rs) k in
    and_from _ _ (and_from _ _ kept.0 rest.0) (written rs kept.1 rest.1)

pub journal_written : (es : List Event) → list_all is_kept_run (joined es) ≡ true → list_all has_lane es ≡ true → AreWritten (joined es)
journal_written es h k = written (joined es) h (placed es k)

-- any runs with the text of a journal expand to its events
pub journal_reading : (es : List Event) (runs : List EventRun) → AreWritten (joined es) → AreWritten runs → runs_text runs ≡ text es → events_of runs ≡ es
journal_reading es runs h k e = ap events_of (one_reading runs (joined es) k h e) ∙ runs_expand es

-- ---- limits

-- after a text with this tally these runs pass no limit
record Fits (t : Tally) (rs : List EventRun) : Type 0 where
  pub steps : t.steps + count_by is_step (events_of rs) ≤ MAX_JOURNAL_STEPS
  pub ticks : t.ticks + count_by is_tick (events_of rs) ≤ MAX_JOURNAL_STEPS
  pub actions : t.actions + count_by is_action (events_of rs) ≤ MAX_ACTIONS

fits_after : (t : Tally) (r : EventRun) (rs : List EventRun) → Fits t (r ∷ rs) → Fits (with_run t r) rs
fits_after t r rs f = record {
  steps = omega (arith, f.steps, of_steps t r.event r.count, counted is_step r rs (cond (is_step r.event) 1 0) refl);
  ticks = omega (arith, f.ticks, of_ticks t r.event r.count, counted is_tick r rs (cond (is_tick r.event) 1 0) refl);
  actions = omega (arith, f.actions, of_actions t r.event r.count, counted is_action r rs (cond (is_action r.event) 1 0) refl);
}

fits_allowed : (t : Tally) (rs : List EventRun) → Fits t rs → is_allowed t ≡ true
fits_allowed t rs f =
    and_from _ _ (and_from _ _ (le-leb t.steps MAX_JOURNAL_STEPS (omega (arith, f.steps))) (le-leb t.ticks MAX_JOURNAL_STEPS (omega (arith, f.ticks)))) (le-leb t.actions MAX_ACTIONS (omega (arith, f.actions)))

-- ---- read back

abbrev checked : Tally → Bool → Option EventRun → Bool → Result EventRun JournalCode
checked t a o b = do
  _ ← unless a J1
  run ← some_or o J1
  _ ← unless b J2
  _ ← unless (nat_lt 0 run.count && is_allowed (with_run t run)) J4
  Ok run

pub line_says : (t : Tally) (line : List ℕ) (r : EventRun) → IsReadLine line r → is_line line ≡ true → 0 < r.count → is_allowed (with_run t r) ≡ true → read_line t line ≡ Ok r
line_says t line r back k some allowed =
    ap (λ a. checked t a (run_of line) (is_lane (lane_of line))) k
    ∙ ap (λ o. checked t true o (is_lane (lane_of line))) back.run
    ∙ ap (λ b. checked t true (Some r) b) back.lane
    ∙ ap (λ b. unless b J4 >>= (λ v. Ok r)) (and_from _ _ (lt-ltb 0 r.count some) allowed)

line_fits : (t : Tally) (r : EventRun) → is_written r ≡ true → is_line (run_line r) ≡ true → is_allowed (with_run t r) ≡ true → read_line t (run_line r) ≡ Ok r
line_fits t r h k allowed =
    let run = (and_parts (has_lane r.event) (is_run r) (and_parts (is_kept_run r) (is_placed r) h).1).1 in
    let some : 0 < r.count = omega (arith, leb-true 1 r.count (and_parts (nat_le 1 r.count) (not (is_action r.event) || nat_eq r.count 1) run).0) in
    line_says t (run_line r) r (line_back r h) k some allowed

abbrev on_read : ℕ → Tally → List (List ℕ) → Result EventRun JournalCode → Result (List EventRun) JournalFault
on_read n t ls x = elim x [ Err code ↦ refused n code | Ok r ↦ before_rest r (runs_from (n + 1) (with_run t r) ls) ]

abbrev on_end : ℕ → Tally → List (List ℕ) → Bool → Result EventRun JournalCode → Result (List EventRun) JournalFault
on_end n t ls b x = elim b [ true ↦ Ok [] | false ↦ on_read n t ls x ]

abbrev on_skip : ℕ → Tally → List (List ℕ) → Bool → Bool → Result EventRun JournalCode → Result (List EventRun) JournalFault
on_skip n t ls a b x = elim a [ true ↦ runs_from (n + 1) t ls | false ↦ on_end n t ls b x ]

runs_step : (n : ℕ) (t : Tally) (l : List ℕ) (ls : List (List ℕ)) (r : EventRun) → is_skipped l ≡ false → is_end l ≡ false → read_line t l ≡ Ok r → runs_from n t (l ∷ ls) ≡ before_rest r (runs_from (n + 1) (with_run t r) ls)
runs_step n t l ls r skipped last read =
    ap (λ a. on_skip n t ls a (is_end l && is_line l) (read_line t l)) skipped
    ∙ ap (λ b. on_end n t ls (b && is_line l) (read_line t l)) last
    ∙ ap (λ x. on_read n t ls x) read

runs_back : (n : ℕ) (t : Tally) (rs : List EventRun) → list_all is_written rs ≡ true → list_all is_line (run_lines rs) ≡ true → Fits t rs → runs_from n t (run_lines rs) ≡ Ok rs
runs_back n t [] h k f = refl
runs_back n t (r ∷ rs) h k f =
    let two = and_parts (is_written r) (list_all is_written rs) h in
    let sizes = and_parts (is_line (run_line r)) (list_all is_line (run_lines rs)) k in
    let back = line_back r two.0 in
    let later = fits_after t r rs f in
    runs_step n t (run_line r) (run_lines rs) r back.skipped back.end (line_fits t r two.0 sizes.0 (fits_allowed (with_run t r) rs later))
    ∙ ap (before_rest r) (runs_back (n + 1) (with_run t r) rs two.1 sizes.1 later)

fits_journal : (es : List Event) → IsWithin es → Fits no_events (joined es)
fits_journal es w =
    let is = runs_expand es in
    record {
      steps = omega (arith, w.steps, ap (count_by is_step) is);
      ticks = omega (arith, w.ticks, ap (count_by is_tick) is);
      actions = omega (arith, w.actions, ap (count_by is_action) is);
    }

pub journal_back : (es : List Event) → AreWritten (joined es) → IsReadable es → journal_of (text es) ≡ Ok es
journal_back es h r =
    let is = lines_of_runs (joined es) h in
    let sizes : list_all is_line (run_lines (joined es)) ≡ true = sym (ap (list_all is_line) is) ∙ r.lines in
    ap (λ ls. all_events (runs_from 1 no_events ls)) is
    ∙ ap all_events (runs_back 1 no_events (joined es) h sizes (fits_journal es r.within))
    ∙ ap Ok (runs_expand es)
