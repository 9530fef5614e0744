-- The lines of a journal, one by one.
use Rattle.std.proofs.Common.{◌≡◌, ℕ, ◌+◌, ◌≤◌, List, ◌∷◌, [], ◌++◌, length, length-append, replicate, Bool, true, false, ◌&&◌, nat_le, IsTrue, Result, Ok, Err, append_assoc, refl, ap, sym, ◌∙◌, arith}
use Rattle.std.proofs.lemmas.Bool.{and_parts, leb-true}
use Rattle.std.proofs.lemmas.List.{append-nil, length-replicate}
use Rattle.spec_base.specs.declared.limits.TheConstants.{MAX_ACTIONS, MAX_EVENTS, MAX_JOURNAL_STEPS}
use Rattle.spec_machine.specs.declared.event.Event.{Event}
use Rattle.spec_machine.specs.declared.event.Event.TheVariants.{Cpu, Tick, Act}
use Rattle.spec_text.specs.declared.script.EventRun.{EventRun}
use Rattle.spec_text.specs.declared.script.JournalCode.{JournalCode}
use Rattle.spec_text.specs.declared.script.JournalFault.{JournalFault}
use Rattle.spec_text.specs.declared.script.JournalCode.TheVariants.{J1}
use Rattle.spec_text.specs.TextLines.{is_skipped, lines}
use Rattle.spec_text.specs.JournalText.{Tally, before_rest, events_of, is_allowed, is_end, is_line, read_line, refused, runs_from, with_run}
use Rattle.lgx_journal.specs.Counts.{IsFirstLine}
use Rattle.lgx_journal.specs.Reading.{after_events, read_after, tally_events}

-- what is read of the lines from a line on, by what is known of it
abbrev by_line : Bool → Bool → Result EventRun JournalCode → ℕ → Tally → List (List ℕ) → Result (List EventRun) JournalFault
by_line skipped last read n t ls =
    elim skipped [
      | true ↦ runs_from (n + 1) t ls
      | false ↦ elim last [
        | true ↦ Ok []
        | false ↦ elim read [ Err code ↦ refused n code | Ok r ↦ before_rest r (runs_from (n + 1) (with_run t r) ls) ]
      ]
    ]

pub line_skipped : (n : ℕ) (t : Tally) (line : List ℕ) (ls text : List (List ℕ)) → text ≡ line ∷ ls → is_skipped line ≡ true → runs_from n t text ≡ runs_from (n + 1) t ls
line_skipped n t line ls text is h = ap (runs_from n t) is ∙ ap (λ b. by_line b (is_end line && is_line line) (read_line t line) n t ls) h

pub line_ends : (es : List Event) (n : ℕ) (t : Tally) (line : List ℕ) (ls text : List (List ℕ)) → text ≡ line ∷ ls → is_skipped line ≡ false → (is_end line && is_line line) ≡ true → after_events es (runs_from n t text) ≡ Ok es
line_ends es n t line ls text is h k =
    ap (λ ls. after_events es (runs_from n t ls)) is ∙ ap (λ b. after_events es (by_line b (is_end line && is_line line) (read_line t line) n t ls)) h
    ∙ ap (λ b. after_events es (by_line false b (read_line t line) n t ls)) k ∙ ap Ok (append-nil es)

read_at : (n : ℕ) (t : Tally) (line : List ℕ) (ls text : List (List ℕ)) (read : Result EventRun JournalCode) → text ≡ line ∷ ls → is_skipped line ≡ false → (is_end line && is_line line) ≡ false → read_line t line ≡ read → runs_from n t text ≡ by_line false false read n t ls
read_at n t line ls text read is h k e =
    ap (runs_from n t) is ∙ ap (λ b. by_line b (is_end line && is_line line) (read_line t line) n t ls) h
    ∙ ap (λ b. by_line false b (read_line t line) n t ls) k ∙ ap (λ r. by_line false false r n t ls) e

after_run : (es : List Event) (run : EventRun) (rest : Result (List EventRun) JournalFault) → after_events es (before_rest run rest) ≡ after_events (es ++ replicate run.count run.event) rest
after_run es run (Err fault) = refl
after_run es run (Ok runs) = ap Ok (sym (append_assoc es (replicate run.count run.event) (events_of runs)))

pub line_read : (es : List Event) (n : ℕ) (t : Tally) (line : List ℕ) (ls text : List (List ℕ)) (run : EventRun) → text ≡ line ∷ ls → is_skipped line ≡ false → (is_end line && is_line line) ≡ false → read_line t line ≡ Ok run
    → after_events es (runs_from n t text) ≡ after_events (es ++ replicate run.count run.event) (runs_from (n + 1) (with_run t run) ls)
line_read es n t line ls text run is h k e =
    ap (after_events es) (read_at n t line ls text (Ok run) is h k e) ∙ after_run es run (runs_from (n + 1) (with_run t run) ls)

-- ---- what is read of a text, after its first line

pub first_read : (es : List Event) (n : ℕ) (t : Tally) (text after : List ℕ) (run : EventRun) → IsFirstLine text after run → IsTrue (is_allowed (with_run t run)) → read_after es n t text ≡ read_after (es ++ replicate run.count run.event) (n + 1) (with_run t run) after
first_read es n t text after run f allowed =
    line_read es n t f.line (lines after) (lines text) run f.lines f.skipped (ap (λ b. b && is_line f.line) f.end) (f.reads t allowed)

-- a short line more
pub counted_on : (es start more : List Event) (k : ℕ) (t u first : Tally) (text rest after : List ℕ) (run : EventRun) → IsFirstLine rest after run → IsTrue (is_allowed (with_run t run)) → more ≡ es ++ replicate run.count run.event → u ≡ with_run t run
    → ((n : ℕ) → read_after es (n + k) t rest ≡ read_after start n first text) → (n : ℕ) → read_after more (n + (k + 1)) u after ≡ read_after start n first text
counted_on es start more k t u first text rest after run f allowed added counted before n =
    let place : n + (k + 1) ≡ n + k + 1 = omega arith in
    ap (λ (xs : List Event). read_after xs (n + (k + 1)) u after) added
    ∙ ap (λ (v : Tally). read_after (es ++ replicate run.count run.event) (n + (k + 1)) v after) counted
    ∙ ap (λ (m : ℕ). read_after (es ++ replicate run.count run.event) m (with_run t run) after) place
    ∙ sym (first_read es (n + k) t rest after run f allowed)
    ∙ before n

pub after_skipped : (es : List Event) (n m : ℕ) (t : Tally) (line text after : List ℕ) (whole : Result (List Event) JournalFault) → lines text ≡ line ∷ lines after → is_skipped line ≡ true → m ≡ n + 1
    → read_after es n t text ≡ whole → read_after es m t after ≡ whole
after_skipped es n m t line text after whole is h place before =
    ap (λ (k : ℕ). read_after es k t after) place ∙ ap (after_events es) (sym (line_skipped n t line (lines after) (lines text) is h)) ∙ before

pub after_last : (es : List Event) (n : ℕ) (t : Tally) (line text after : List ℕ) (whole : Result (List Event) JournalFault) → lines text ≡ line ∷ lines after → is_skipped line ≡ false → (is_end line && is_line line) ≡ true
    → read_after es n t text ≡ whole → whole ≡ Ok es
after_last es n t line text after whole is h k before = sym before ∙ line_ends es n t line (lines after) (lines text) is h k

pub after_line : (es more : List Event) (n m : ℕ) (t u : Tally) (line text after : List ℕ) (run : EventRun) (whole : Result (List Event) JournalFault) → lines text ≡ line ∷ lines after → is_skipped line ≡ false → (is_end line && is_line line) ≡ false
    → read_line t line ≡ Ok run → more ≡ es ++ replicate run.count run.event → u ≡ with_run t run → m ≡ n + 1 → read_after es n t text ≡ whole → read_after more m u after ≡ whole
after_line es more n m t u line text after run whole is h k e added counted place before =
    ap (λ (xs : List Event). read_after xs m u after) added
    ∙ ap (λ (v : Tally). read_after (es ++ replicate run.count run.event) m v after) counted
    ∙ ap (λ (k : ℕ). read_after (es ++ replicate run.count run.event) k (with_run t run) after) place
    ∙ sym (line_read es n t line (lines after) (lines text) run is h k e)
    ∙ before

pub after_fault : (es : List Event) (n m : ℕ) (t : Tally) (line text after : List ℕ) (code : JournalCode) (whole : Result (List Event) JournalFault) → lines text ≡ line ∷ lines after → is_skipped line ≡ false → (is_end line && is_line line) ≡ false
    → read_line t line ≡ Err code → m ≡ n → read_after es n t text ≡ whole → whole ≡ Err (record { code = code; line = m })
after_fault es n m t line text after code whole is h k e place before =
    sym before ∙ ap (after_events es) (read_at n t line (lines after) (lines text) (Err code) is h k e) ∙ ap (λ (l : ℕ). Err (record { code = code; line = l })) (sym place)

pub after_none : (es : List Event) (n m : ℕ) (t : Tally) (text : List ℕ) (whole : Result (List Event) JournalFault) → lines text ≡ [] → m ≡ n → read_after es n t text ≡ whole → whole ≡ Err (record { code = J1; line = m })
after_none es n m t text whole is place before = sym before ∙ ap (λ ls. after_events es (runs_from n t ls)) is ∙ ap (λ (l : ℕ). Err (record { code = J1; line = l })) (sym place)

-- ---- how many events there are

counted_at : (t : Tally) (e : Event) (n : ℕ) → tally_events (with_run t (record { event = e; count = n })) ≡ tally_events t + n
counted_at t Cpu n = omega arith
counted_at t Tick n = omega arith
counted_at t (Act lane a) n = omega arith

pub run_counted : (t : Tally) (r : EventRun) → tally_events (with_run t r) ≡ tally_events t + r.count
run_counted t r = counted_at t r.event r.count

pub allowed_few : (t : Tally) → IsTrue (is_allowed t) → tally_events t ≤ 8100000
allowed_few t is =
    let both = and_parts (nat_le t.steps MAX_JOURNAL_STEPS && nat_le t.ticks MAX_JOURNAL_STEPS) (nat_le t.actions MAX_ACTIONS) is in
    let counted = and_parts (nat_le t.steps MAX_JOURNAL_STEPS) (nat_le t.ticks MAX_JOURNAL_STEPS) both.0 in
    omega (arith, leb-true t.steps MAX_JOURNAL_STEPS counted.0, leb-true t.ticks MAX_JOURNAL_STEPS counted.1, leb-true t.actions MAX_ACTIONS both.1)

pub fits_more : (t : Tally) (r : EventRun) (n : ℕ) → n ≡ tally_events t → IsTrue (is_allowed (with_run t r)) → n + r.count ≤ MAX_EVENTS
fits_more t r n h is = omega (arith, h, run_counted t r, allowed_few (with_run t r) is)

pub counted_more : (t u : Tally) (r : EventRun) (es more : List Event) → length es ≡ tally_events t → u ≡ with_run t r → more ≡ es ++ replicate r.count r.event → length more ≡ tally_events u
counted_more t u r es more h counted added =
    ap length added ∙ length-append es (replicate r.count r.event) ∙ omega (arith, h, length-replicate r.count r.event, run_counted t r) ∙ sym (ap tally_events counted)
