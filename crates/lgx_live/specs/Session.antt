-- A session: lines of a journal that are done one by one, as they come.
use Rattle.std.specs.Prelude.{ℕ, ◌+◌, List, [], ◌∷◌, ◌++◌, length, map, replicate, Bool, true, false, ◌&&◌, nat_le, Result, Ok, Err}
use Rattle.spec_base.specs.FirstCause.{◌>>=◌, unless}
use Rattle.spec_base.specs.declared.limits.TheConstants.{MAX_EVENTS}
use Rattle.spec_machine.specs.declared.event.Event.{Event}
use Rattle.spec_machine.specs.Project.{Project}
use Rattle.spec_machine.specs.Machine.{run}
use Rattle.spec_machine.specs.Report.{Stamped, steps_of, lines_from}
use Rattle.spec_text.specs.declared.script.EventRun.{EventRun}
use Rattle.spec_text.specs.declared.script.JournalCode.{JournalCode}
use Rattle.spec_text.specs.declared.script.JournalCode.TheVariants.{J4}
use Rattle.spec_text.specs.declared.script.JournalFault.{JournalFault}
use Rattle.spec_text.specs.TextLines.{is_skipped}
use Rattle.spec_text.specs.JournalText.{is_end, is_line, read_line, no_events}

-- how far a session has come: the events that were done, and the number of lines that came
pub record Point : Type 0 where
  pub events : List Event
  pub lines : ℕ

abbrev pub no_line_yet : Point
no_line_yet = record { events = []; lines = 0 }

-- the events of a line, or its first cause: those of a journal that has this line alone, and J4 for more events than a controller
-- counts
abbrev pub run_asked : List Event → List ℕ → Result EventRun JournalCode
run_asked events line = do
  r ← read_line no_events line
  _ ← unless (nat_le (length events + r.count) MAX_EVENTS) J4
  Ok r

-- what a line is: one that is passed over, one with a cause, or one that is done
pub data Meaning : Type 0 where
  Skipped : Meaning
  Refused : JournalCode → Meaning
  Done : EventRun → Meaning

abbrev pub judged : Result EventRun JournalCode → Meaning
judged (Err code) = Refused code
judged (Ok r) = Done r

abbrev pub unless_skipped : Bool → Result EventRun JournalCode → Meaning
unless_skipped true r = Skipped
unless_skipped false r = judged r

abbrev pub meaning : List Event → List ℕ → Meaning
meaning events line = unless_skipped (is_skipped line) (run_asked events line)

-- the events that it does
abbrev pub events_done : Meaning → List Event
events_done Skipped = []
events_done (Refused code) = []
events_done (Done r) = replicate r.count r.event

abbrev pub after : Point → List ℕ → Point
after at line = record { events = at.events ++ events_done (meaning at.events line); lines = at.lines + 1 }

abbrev pub after_all : Point → List (List ℕ) → Point
after_all at [] = at
after_all at (l ∷ ls) = after_all (after at l) ls

-- ---- what is answered

-- a line of the report, or a line that wasn't done: its first cause and its number
pub data LiveLine : Type 0 where
  Reported : Stamped → LiveLine
  NotDone : JournalFault → LiveLine

-- the lines of the report that come with more events
abbrev pub lines_with : Project → List Event → List Event → List Stamped
lines_with project events more = lines_from project.watches (run project events) (steps_of events) more

abbrev pub answer_to : Project → Point → Meaning → List LiveLine
answer_to project at Skipped = []
answer_to project at (Refused code) = NotDone (record { code = code; line = at.lines + 1 }) ∷ []
answer_to project at (Done r) = map Reported (lines_with project at.events (replicate r.count r.event))

abbrev pub answer : Project → Point → List ℕ → List LiveLine
answer project at line = answer_to project at (meaning at.events line)

abbrev pub answers : Project → Point → List (List ℕ) → List LiveLine
answers project at [] = []
answers project at (l ∷ ls) = answer project at l ++ answers project (after at l) ls

-- ---- where it ends

-- the line `end` ends a session; what follows isn't read
abbrev pub is_last : List ℕ → Bool
is_last line = is_end line && is_line line

abbrev pub before_last : Bool → List ℕ → List (List ℕ) → List (List ℕ)
before_last true l ls = []
before_last false l ls = l ∷ ls

abbrev pub before_end : List (List ℕ) → List (List ℕ)
before_end [] = []
before_end (l ∷ ls) = before_last (is_last l) l (before_end ls)
