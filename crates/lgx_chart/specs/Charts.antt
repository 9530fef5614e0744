-- What a report says: a reading of its text, line by line.
use Rattle.std.specs.Prelude.{ℕ, ◌+◌, List, [], ◌∷◌, ◌++◌, length, Bool, false, ◌&&◌, nat_le, if◌then◌else◌, Option, Some, None, Result, Ok, Err}
use Rattle.std.specs.List.{list_any}
use Rattle.std.specs.Str.{bytes_eq}
use Rattle.spec_base.specs.FirstCause.{◌>>=◌, unless, some_or}
use Rattle.spec_base.specs.Pieces.{pieces, is_empty}
use Rattle.spec_base.specs.declared.limits.TheConstants.{MAX_TASKS, MAX_REPORT_LINES}
use Rattle.spec_machine.specs.declared.limits.TheConstants.{MAX_WATCHES}
use Rattle.lgx_chart.specs.declared.entry.Note.{Note}
use Rattle.lgx_chart.specs.declared.entry.Note.TheVariants.{Begin, Reply, Fault, Set}
use Rattle.lgx_chart.specs.declared.entry.Entry.{Entry}
use Rattle.lgx_chart.specs.declared.entry.End.{End}
use Rattle.lgx_chart.specs.declared.entry.Chart.{Chart}
use Rattle.lgx_chart.specs.declared.error.ChartCode.{ChartCode}
use Rattle.lgx_chart.specs.declared.error.ChartCode.TheVariants.{V1, V2, V3, V4, V5}
use Rattle.lgx_chart.specs.declared.error.ChartFault.{ChartFault}
use Rattle.lgx_chart.specs.Forms.{entry_of, end_of}

-- ---- what is before a line

-- the number of lines, the last tick and number of steps, the tasks that began, the watched places that changed
pub record Seen : Type 0 where
  pub lines : ℕ
  pub tick : ℕ
  pub step : ℕ
  pub tasks : List (List ℕ)
  pub watches : List (List ℕ)

abbrev pub nothing : Seen
nothing = record { lines = 0; tick = 0; step = 0; tasks = []; watches = [] }

-- a name is listed where it comes first
abbrev pub with_name : List (List ℕ) → List ℕ → List (List ℕ)
with_name names name = if list_any (λ n. bytes_eq n name) names then names else names ++ name ∷ []

abbrev pub tasks_with : List (List ℕ) → Note → List (List ℕ)
tasks_with tasks (Begin task program version) = with_name tasks task
tasks_with tasks (Reply words) = tasks
tasks_with tasks (Fault words) = tasks
tasks_with tasks (Set watch value) = tasks

abbrev pub watches_with : List (List ℕ) → Note → List (List ℕ)
watches_with watches (Begin task program version) = watches
watches_with watches (Reply words) = watches
watches_with watches (Fault words) = watches
watches_with watches (Set watch value) = with_name watches watch

abbrev pub seen_with : Seen → Entry → Seen
seen_with seen e = record {
  lines = seen.lines + 1;
  tick = e.tick;
  step = e.step;
  tasks = tasks_with seen.tasks e.note;
  watches = watches_with seen.watches e.note;
}

abbrev pub is_within_limits : Seen → Bool
is_within_limits seen =
    nat_le seen.lines MAX_REPORT_LINES && nat_le (length seen.tasks) MAX_TASKS && nat_le (length seen.watches) MAX_WATCHES

-- neither the tick nor the number of steps goes back
abbrev pub comes_after : Seen → ℕ → ℕ → Bool
comes_after seen tick step = nat_le seen.tick tick && nat_le seen.step step

-- ---- line by line

-- what a line says, if it may come here, or its first cause
abbrev pub taken : Seen → Entry → Result Entry ChartCode
taken seen e =
    unless (comes_after seen e.tick e.step) V2 >>= λ _. unless (is_within_limits (seen_with seen e)) V3 >>= λ _. Ok e

-- what a line before the end line says, or its first cause
abbrev pub entry_at : Seen → List (List ℕ) → Result Entry ChartCode
entry_at seen words = some_or (entry_of words) V1 >>= taken seen

abbrev pub refused : {A : Type 0} → ℕ → ChartCode → Result A ChartFault
refused line code = Err (record { code = code; line = line })

-- what is after the end line's line feed is nothing
abbrev pub nothing_follows : List (List ℕ) → Bool
nothing_follows [] = false
nothing_follows (rest ∷ []) = is_empty rest
nothing_follows (rest ∷ next ∷ more) = false

-- a report that ends with this line
abbrev pub chart_at_end : Seen → End → List (List ℕ) → Result Chart ChartFault
chart_at_end seen end rest =
    if comes_after seen end.tick end.step then (if nothing_follows rest then Ok (record { tasks = seen.tasks; watches = seen.watches; entries = []; end = end }) else refused (seen.lines + 2) V5) else refused (seen.lines + 1) V2

-- with an entry before the others
abbrev pub with_entry : Entry → Result Chart ChartFault → Result Chart ChartFault
with_entry e (Ok chart) = Ok (record chart { entries = e ∷ chart.entries })
with_entry e (Err fault) = Err fault

-- the report that goes on with a line which is an end line, or says something, or is refused
abbrev pub by_line : Seen → Option End → Result Entry ChartCode → List (List ℕ) → (Seen → Result Chart ChartFault) → Result Chart ChartFault
by_line seen (Some end) entry rest others = chart_at_end seen end rest
by_line seen None (Err code) rest others = refused (seen.lines + 1) code
by_line seen None (Ok e) rest others = with_entry e (others (seen_with seen e))

-- the report that goes on with these lines; what is after the last line feed is no line
abbrev pub chart_from : Seen → List (List ℕ) → Result Chart ChartFault
chart_from seen [] = refused (seen.lines + 1) V4
chart_from seen (rest ∷ []) = refused (seen.lines + 1) V4
chart_from seen (line ∷ next ∷ more) =
    by_line seen (end_of (pieces 32 line)) (entry_at seen (pieces 32 line)) (next ∷ more) (λ s. chart_from s (next ∷ more))

abbrev pub chart_of : List ℕ → Result Chart ChartFault
chart_of text = chart_from nothing (pieces 10 text)
