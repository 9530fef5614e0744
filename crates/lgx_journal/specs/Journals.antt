-- What a journal is seen as, and a run put after its runs.
use Rattle.std.specs.Prelude.{ℕ, ◌+◌, List, [], ◌∷◌, Bool, not, ◌&&◌, ◌||◌, nat_le, nat_eq, if◌then◌else◌}
use Rattle.spec_machine.specs.declared.event.Event.{Event}
use Rattle.spec_text.specs.declared.script.EventRun.{EventRun}
use Rattle.spec_machine.specs.Events.{is_action}
use Rattle.spec_text.specs.JournalText.{runs_on}

-- its events, and for how many more runs it has room
pub record JournalView : Type 0 where
  pub events : List Event
  pub spare : ℕ

abbrev pub journal_view : List Event → ℕ → JournalView
journal_view events spare = record { events = events; spare = spare }

-- a run has its event at least once, and an action once
abbrev pub is_run : EventRun → Bool
is_run r = nat_le 1 r.count && (not (is_action r.event) || nat_eq r.count 1)

-- a run after other runs: it goes on the last one, or is one of its own
abbrev pub after_runs : List EventRun → EventRun → List EventRun
after_runs [] r = r ∷ []
after_runs (q ∷ []) r = if runs_on q.event r.event then record q { count = q.count + r.count } ∷ [] else q ∷ r ∷ []
after_runs (q ∷ p ∷ qs) r = q ∷ after_runs (p ∷ qs) r

-- how often the last run has its event
abbrev pub last_count : List EventRun → ℕ
last_count [] = 0
last_count (q ∷ []) = q.count
last_count (q ∷ p ∷ qs) = last_count (p ∷ qs)
