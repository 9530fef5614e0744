-- The runs of a journal as it keeps them: what they say, and how one is put after others.
use Rattle.std.specs.Prelude.{◌≡◌, ℕ, ◌+◌, ◌≤◌, ◌<◌, List, [], ◌∷◌, length, map, slice_index_or, Option, Some, None, IsTrue}
use Rattle.spec_base.specs.declared.limits.TheConstants.{MAX_EVENTS}
use Rattle.spec_machine.specs.declared.event.Event.{Event}
use Rattle.spec_machine.specs.declared.event.Event.TheVariants as event
use Rattle.spec_machine.specs.Events.{is_action}
use Rattle.spec_text.specs.declared.script.EventRun.{EventRun}
use Rattle.spec_text.specs.JournalText.{events_of, joined}
use Rattle.lgx_journal.specs.declared.runs.Run.{Run}
use Rattle.lgx_journal.specs.declared.runs.Run.TheVariants.{Cpu, Tick, Act}
use Rattle.lgx_journal.specs.declared.runs.EventsLent.{EventsLent}
use Rattle.lgx_journal.specs.declared.runs.EventsLent.TheVariants as view

-- what a reader of runs sees: an event, and how often it comes
abbrev pub seen_run : EventsLent → EventRun
seen_run (view.Cpu n) = record { event = event.Cpu; count = n }
seen_run (view.Tick n) = record { event = event.Tick; count = n }
seen_run (view.Act lane a) = record { event = event.Act lane a.now; count = 1 }

-- what a run says, beside the actions of its journal
abbrev pub run_in : List Event → Run → EventRun
run_in acts (Cpu n) = record { event = event.Cpu; count = n }
run_in acts (Tick n) = record { event = event.Tick; count = n }
run_in acts (Act k) = record { event = slice_index_or acts k event.Cpu; count = 1 }

abbrev pub runs_in : List Event → List Run → List EventRun
runs_in acts runs = map (run_in acts) runs

-- how many events a run is, and the last of some runs
abbrev pub count_of : Run → ℕ
count_of (Cpu n) = n
count_of (Tick n) = n
count_of (Act k) = 1

abbrev pub last_count_of : List Run → ℕ
last_count_of [] = 0
last_count_of (q ∷ []) = count_of q
last_count_of (q ∷ p ∷ qs) = last_count_of (p ∷ qs)

-- two runs that follow one another as one, if they are one
abbrev pub join_of : Run → Run → Option Run
join_of (Cpu n) (Cpu m) = Some (Cpu (n + m))
join_of (Tick n) (Tick m) = Some (Tick (n + m))
join_of q r = None

-- a run after the last of other runs: it goes on that one, or is one of its own
abbrev pub after_last : Run → Run → Option Run → List Run
after_last q r (Some p) = p ∷ []
after_last q r None = q ∷ r ∷ []

abbrev pub with_last : List Run → Run → List Run
with_last [] r = r ∷ []
with_last (q ∷ []) r = after_last q r (join_of q r)
with_last (q ∷ p ∷ qs) r = q ∷ with_last (p ∷ qs) r

-- the number of an action is that of one
abbrev pub IsAmong : List Event → Run → Type 0
IsAmong acts (Cpu n) = Unit {0}
IsAmong acts (Tick n) = Unit {0}
IsAmong acts (Act k) = (k < length acts) × IsTrue (is_action (slice_index_or acts k event.Cpu))

abbrev pub AreAmong : List Event → List Run → Type 0
AreAmong acts [] = Unit {0}
AreAmong acts (r ∷ rs) = IsAmong acts r × AreAmong acts rs

-- the runs of a journal with these actions
pub record AreRuns (acts : List Event) (runs : List Run) : Type 0 where
  pub among : AreAmong acts runs
  pub joined : joined (events_of (runs_in acts runs)) ≡ runs_in acts runs
  pub few : length (events_of (runs_in acts runs)) ≤ MAX_EVENTS
  -- each action is in a run of its own
  pub fewer : length acts ≤ length runs
