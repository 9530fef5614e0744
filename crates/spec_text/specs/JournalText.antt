-- The text of a journal: how its lines are read, with the first line that is refused and its first cause, and the
-- canonical text of a list of events.
use Rattle.std.specs.Prelude.{ℕ, ◌+◌, ◌≤◌, count_by, List, [], ◌∷◌, ◌++◌, length, replicate, flat_map, Bool, true, false, ◌&&◌, nat_le, nat_lt, nat_eq, if◌then◌else◌, Option, Some, None, option_map, Result, Ok, Err, codes, decimal}
use Rattle.std.specs.Option.{option_or}
use Rattle.std.specs.Str.{bytes_eq}
use Rattle.spec_base.specs.declared.limits.TheConstants.{MAX_JOURNAL_STEPS, MAX_ACTIONS, MAX_LINE_BYTES, OWN_LANE}
use Rattle.spec_machine.specs.declared.event.Action.{Action}
use Rattle.spec_machine.specs.declared.event.Event.{Event}
use Rattle.spec_machine.specs.declared.event.Event.TheVariants.{Cpu, Tick, Act}
use Rattle.spec_text.specs.declared.script.EventRun.{EventRun}
use Rattle.spec_text.specs.declared.script.JournalCode.{JournalCode}
use Rattle.spec_text.specs.declared.script.JournalCode.TheVariants.{J1, J2, J4}
use Rattle.spec_text.specs.declared.script.JournalFault.{JournalFault}
use Rattle.spec_machine.specs.Events.{is_step, is_tick, is_action}
use Rattle.spec_base.specs.FirstCause.{◌>>=◌, unless, some_or}
use Rattle.spec_text.specs.TextLines.{lines, is_skipped, words, first_word, after_word, spaced, line_of, unsigned_of}
use Rattle.spec_text.specs.ActionText.{at_word, action_of, action_words}

abbrev pub events_of : List EventRun → List Event
events_of runs = flat_map (λ r. replicate r.count r.event) runs

-- ---- one line

-- the lane that a line names by its first word, `@LANE`
abbrev pub at_lane : List ℕ → Option ℕ
at_lane [] = None
at_lane (c ∷ digits) = if nat_eq c 64 then unsigned_of digits else None

abbrev pub lane_of : List ℕ → Option ℕ
lane_of line = at_lane (first_word line)

abbrev pub action_run : ℕ → Option Action → Option EventRun
action_run lane o = option_map (λ a. record { event = Act lane a; count = 1 }) o

-- `cpu N` is N events, and `tick N` too
abbrev pub times : Event → Option ℕ → Option EventRun
times e None = None
times e (Some n) = Some (record { event = e; count = n })

abbrev pub counted_run : List (List ℕ) → Option EventRun
counted_run (verb ∷ count ∷ []) = option_or (at_word verb (codes "cpu") (times Cpu (unsigned_of count))) (at_word verb (codes "tick") (times Tick (unsigned_of count)))
counted_run _ = None

-- `@LANE ACTION`
abbrev pub lane_run : List ℕ → Option ℕ → Option EventRun
lane_run line None = None
lane_run line (Some lane) = action_run lane (action_of (after_word line))

-- what a line of a journal says; an action without a lane is of the journal's own lane
abbrev pub run_of : List ℕ → Option EventRun
run_of line = option_or (counted_run (words line)) (option_or (lane_run line (lane_of line)) (action_run OWN_LANE (action_of line)))

-- the line `end` ends a text; what follows isn't read
abbrev pub is_end : List ℕ → Bool
is_end line = bytes_eq (spaced (words line)) (codes "end")

-- ---- limits

-- how many processor steps, ticks and actions are in a text so far
pub record Tally : Type 0 where
  pub steps : ℕ
  pub ticks : ℕ
  pub actions : ℕ

abbrev pub with_run : Tally → EventRun → Tally
with_run t r = add r.event
  where
    add : Event → Tally
    add Cpu = record t { steps = t.steps + r.count }
    add Tick = record t { ticks = t.ticks + r.count }
    add (Act lane a) = record t { actions = t.actions + r.count }

-- processor steps, ticks and actions are within their limits
abbrev pub is_allowed : Tally → Bool
is_allowed t = nat_le t.steps MAX_JOURNAL_STEPS && nat_le t.ticks MAX_JOURNAL_STEPS && nat_le t.actions MAX_ACTIONS

-- the same of a list of events
pub record IsWithin (journal : List Event) : Type 0 where
  pub steps : count_by is_step journal ≤ MAX_JOURNAL_STEPS
  pub ticks : count_by is_tick journal ≤ MAX_JOURNAL_STEPS
  pub actions : count_by is_action journal ≤ MAX_ACTIONS

-- a line has not too many bytes
abbrev pub is_line : List ℕ → Bool
is_line line = nat_le (length line) MAX_LINE_BYTES

-- a lane that a line names is one of modules and engineers, below the journal's own
abbrev pub is_lane : Option ℕ → Bool
is_lane None = true
is_lane (Some lane) = nat_lt lane OWN_LANE

-- ---- the first cause of a line, and the first line that has one

-- what a line says after a text with this tally, or its first cause
abbrev pub read_line : Tally → List ℕ → Result EventRun JournalCode
read_line t line = do
  _ ← unless (is_line line) J1
  run ← some_or (run_of line) J1
  _ ← unless (is_lane (lane_of line)) J2
  _ ← unless (nat_lt 0 run.count && is_allowed (with_run t run)) J4
  Ok run

abbrev pub refused : {A : Type 0} → ℕ → JournalCode → Result A JournalFault
refused n code = Err (record { code = code; line = n })

abbrev pub before_rest : EventRun → Result (List EventRun) JournalFault → Result (List EventRun) JournalFault
before_rest r (Err e) = Err e
before_rest r (Ok rs) = Ok (r ∷ rs)

-- the lines from number n on, after a text with this tally; a text without `end` is refused at the line after its last
abbrev pub runs_from : ℕ → Tally → List (List ℕ) → Result (List EventRun) JournalFault
runs_from n t [] = refused n J1
runs_from n t (l ∷ ls) =
    elim (is_skipped l) [
      | true ↦ runs_from (n + 1) t ls
      | false ↦ elim (is_end l && is_line l) [
        | true ↦ Ok []
        | false ↦ elim (read_line t l) [ Err code ↦ refused n code | Ok r ↦ before_rest r (runs_from (n + 1) (with_run t r) ls) ]
      ]
    ]

abbrev pub no_events : Tally
no_events = record { steps = 0; ticks = 0; actions = 0 }

-- the journal that a text is, as runs, or the first line with a cause and its first cause
abbrev pub journal_runs : List ℕ → Result (List EventRun) JournalFault
journal_runs bytes = runs_from 1 no_events (lines bytes)

abbrev pub all_events : Result (List EventRun) JournalFault → Result (List Event) JournalFault
all_events (Err e) = Err e
all_events (Ok runs) = Ok (events_of runs)

abbrev pub journal_of : List ℕ → Result (List Event) JournalFault
journal_of bytes = all_events (journal_runs bytes)

-- ---- the canonical text

-- runs of processor steps, and of ticks, are one run each
abbrev pub runs_on : Event → Event → Bool
runs_on Cpu Cpu = true
runs_on Tick Tick = true
runs_on _ _ = false

abbrev pub before_runs : Event → List EventRun → List EventRun
before_runs e [] = record { event = e; count = 1 } ∷ []
before_runs e (r ∷ rs) = if runs_on e r.event then record r { count = r.count + 1 } ∷ rs else record { event = e; count = 1 } ∷ r ∷ rs

abbrev pub joined : List Event → List EventRun
joined [] = []
joined (e ∷ es) = before_runs e (joined es)

-- lines of the journal's own lane have no `@`
abbrev pub lane_words : ℕ → List (List ℕ)
lane_words lane = if nat_eq lane OWN_LANE then [] else (64 ∷ decimal lane) ∷ []

abbrev pub event_words : Event → ℕ → List (List ℕ)
event_words Cpu count = codes "cpu" ∷ decimal count ∷ []
event_words Tick count = codes "tick" ∷ decimal count ∷ []
event_words (Act lane a) count = lane_words lane ++ action_words a

-- one line a run with its whole count, and the line `end` last
abbrev pub text : List Event → List ℕ
text journal = flat_map (λ r. line_of (event_words r.event r.count)) (joined journal) ++ codes "end" ++ 10 ∷ []
