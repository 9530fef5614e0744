-- The report of a log, line by line.
use Rattle.std.proofs.Common.{◌≡◌, ℕ, zero, suc, ◌+◌, ◌<◌, List, [], ◌∷◌, ◌++◌, length, map, drop, refl, sym, ap, ◌∙◌, append_assoc, append-nil, add-one, subst, arith}
use Rattle.std.specs.Prelude.{flat_map}
use Rattle.std.specs.List.{concat}
use Rattle.spec_machine.specs.declared.event.Event.{Event}
use Rattle.spec_machine.specs.declared.reply.Mode.{Mode}
use Rattle.spec_machine.specs.Project.{Project}
use Rattle.spec_machine.specs.Machine.{run}
use Rattle.spec_machine.specs.Report.{Stamped, report_lines, steps_of}
use Rattle.spec_text.specs.ReportText.{Names, names_of, line_text, report}
use Rattle.lgx_watch.specs.Kept.{KeptLines, kept_of}
use Rattle.lgx_judge.specs.declared.ends.End.{End}
use Rattle.lgx_judge.specs.ReportLines.{line_at, end_line, report_from, ended_report, end_of}

-- ---- one line more

line_of_log : (names : Names) (lines : List Stamped) (last : List (List ℕ)) (i : ℕ) → i < length lines
    → concat (drop i (map (line_text names) lines ++ last)) ≡ line_at names lines i ++ concat (drop (suc i) (map (line_text names) lines ++ last))
line_of_log names [] last i h = absurd (omega arith)
line_of_log names (x ∷ xs) last zero h = refl
line_of_log names (x ∷ xs) last (suc i) h = line_of_log names xs last i (omega arith)

last_line : (names : Names) (lines : List Stamped) (end : List ℕ)
    → concat (drop (length lines) (map (line_text names) lines ++ end ∷ [])) ≡ end ++ concat (drop (suc (length lines)) (map (line_text names) lines ++ end ∷ []))
last_line names [] end = refl
last_line names (x ∷ xs) end = last_line names xs end

past_last : (names : Names) (lines : List Stamped) (end : List ℕ) (i : ℕ) → length lines < i
    → concat (drop i (map (line_text names) lines ++ end ∷ [])) ≡ []
past_last names lines end zero h = absurd (omega arith)
past_last names [] end (suc zero) h = refl
past_last names [] end (suc (suc i)) h = refl
past_last names (x ∷ xs) end (suc i) h = past_last names xs end i (omega arith)

-- a line of the log, and the report after it
pub from_log_line : (names : Names) (log : KeptLines) (end : End) (i : ℕ) (text : List ℕ) → i < length log.lines → text ≡ line_at names log.lines i
    → report_from names log end i ≡ text ++ report_from names log end (i + 1)
from_log_line names log end i text below is =
    line_of_log names log.lines (end_line log end ∷ []) i below
    ∙ ap (λ k. line_at names log.lines i ++ report_from names log end k) (sym (add-one i))
    ∙ ap (λ t. t ++ report_from names log end (i + 1)) (sym is)

-- the end line, and nothing after it
pub from_end_line : (names : Names) (log : KeptLines) (end : End) (i : ℕ) (text : List ℕ) → i ≡ length log.lines → text ≡ end_line log end
    → report_from names log end i ≡ text ++ report_from names log end (i + 1)
from_end_line names log end i text last is =
    let P : ℕ → Type 0 = λ k. report_from names log end k ≡ end_line log end ++ report_from names log end (suc k) in
    subst P (sym last) (last_line names log.lines (end_line log end))
    ∙ ap (λ k. end_line log end ++ report_from names log end k) (sym (add-one i))
    ∙ ap (λ t. t ++ report_from names log end (i + 1)) (sym is)

-- no line
pub from_past : (names : Names) (log : KeptLines) (end : End) (i : ℕ) → length log.lines < i → report_from names log end i ≡ []
from_past names log end i past = past_last names log.lines (end_line log end) i past

-- ---- all lines

joined : (names : Names) (lines : List Stamped) (end : List ℕ) → concat (map (line_text names) lines ++ end ∷ []) ≡ flat_map (line_text names) lines ++ end
joined names [] end = append-nil end
joined names (x ∷ xs) end =
    ap (λ t. line_text names x ++ t) (joined names xs end) ∙ sym (append_assoc (line_text names x) (flat_map (line_text names) xs) end)

-- from the first line on it is the whole report
pub report_starts : (names : Names) (log : KeptLines) (end : End) → report_from names log end 0 ≡ ended_report names log end
report_starts names log end = joined names log.lines (end_line log end)

-- what is told of the end of a run, part by part
pub end_is : (end : End) (project : Project) (events : List Event) → end.tick ≡ (run project events).tick → end.steps ≡ steps_of events → end.mode ≡ (run project events).mode → end ≡ end_of project events
end_is end project events is_tick is_steps is_mode =
    let s = run project events in
    let told : ℕ → ℕ → Mode → End = λ tick steps mode. record { tick = tick; steps = steps; mode = mode } in
    ap (λ tick. told tick end.steps end.mode) is_tick
    ∙ ap (λ steps. told s.tick steps end.mode) is_steps
    ∙ ap (λ mode. told s.tick (steps_of events) mode) is_mode

-- the report of a log that stands for a journal's lines is the journal's
pub report_is : (names : Names) (log : KeptLines) (end : End) (project : Project) (events : List Event) → names ≡ names_of project → log ≡ kept_of (report_lines project events) → end ≡ end_of project events → ended_report names log end ≡ report project events
report_is names log end project events is_names is_log is_end =
    ap (λ n. ended_report n log end) is_names
    ∙ ap (λ l. ended_report (names_of project) l end) is_log
    ∙ ap (λ e. ended_report (names_of project) (kept_of (report_lines project events)) e) is_end

-- and so is what is handed out of it from the first line on
pub report_from_start : (names : Names) (log : KeptLines) (end : End) (project : Project) (events : List Event) → names ≡ names_of project → log ≡ kept_of (report_lines project events) → end ≡ end_of project events → report_from names log end 0 ≡ report project events
report_from_start names log end project events is_names is_log is_end =
    report_starts names log end ∙ report_is names log end project events is_names is_log is_end
