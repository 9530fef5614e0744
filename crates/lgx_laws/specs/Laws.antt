-- The laws of a trace that the audit leaves out: what each asks of an event, and what breaks one.
use Rattle.std.specs.Prelude.{◌≡◌, ℕ, ◌+◌, ◌<◌, List, [], ◌∷◌, take, length, Bool, true, false, not, Option, Some, None, IsTrue, ◌↔◌, find}
use Rattle.spec_tables.specs.declared.task.TaskDef.{TaskDef}
use Rattle.spec_machine.specs.Project.{Project}
use Rattle.spec_schedule.specs.declared.trace.TraceEvent.{TraceEvent}
use Rattle.spec_schedule.specs.declared.trace.Table.{Table}
use Rattle.spec_schedule.specs.Counting.{CountedEvent, counted_events}
use Rattle.spec_schedule.specs.Legal.{keeps_region}
use Rattle.spec_schedule.specs.TraceView.{table_of}
use Rattle.spec_laws.specs.CountedBack.{each_with_past}
use Rattle.spec_laws.specs.Watchdogs.{keeps_watchdogs}
use Rattle.spec_laws.specs.TickReleases.{keeps_releases}
use Rattle.spec_laws.specs.Triggers.{keeps_triggers}
use Rattle.spec_laws.specs.Scans.{keeps_scans}
use Rattle.lgx_laws.specs.declared.error.Law.{Law}
use Rattle.lgx_laws.specs.declared.error.Law.TheVariants.{Regions, Copies, Watchdogs, Releases, Starts, Triggers, Scans, Modes, Edits, Numbers}
use Rattle.lgx_laws.specs.declared.error.LawError.{LawError}
use Rattle.lgx_laws.specs.declared.error.LawError.TheVariants as judging
use Rattle.lgx_laws.specs.Copies.{keeps_copies}
use Rattle.lgx_laws.specs.Starts.{keeps_starts}
use Rattle.lgx_laws.specs.Modes.{keeps_modes}
use Rattle.lgx_laws.specs.Edits.{keeps_edits, keeps_numbers}

-- ---- a project

-- what the laws ask of a project: the table of the audit, the tasks, and the numbers of each task's programs in turn
pub record Roster : Type 0 where
  pub table : Table
  pub tasks : List TaskDef
  pub schedule : List (List ℕ)

abbrev pub roster_of : Project → Roster
roster_of p = record { table = table_of p; tasks = p.tasks; schedule = p.schedule }

-- ---- the laws

-- All of them, from the one that is reported first: what goes on between steps, who comes up, what a step is of, and then how
-- actions are answered.
abbrev pub laws : List Law
laws = Regions ∷ Copies ∷ Watchdogs ∷ Releases ∷ Starts ∷ Triggers ∷ Scans ∷ Modes ∷ Edits ∷ Numbers ∷ []

abbrev pub rank : Law → ℕ
rank Regions = 0
rank Copies = 1
rank Watchdogs = 2
rank Releases = 3
rank Starts = 4
rank Triggers = 5
rank Scans = 6
rank Modes = 7
rank Edits = 8
rank Numbers = 9

-- whether a law is kept at an event, by the events before it, the latest first
abbrev pub keeps_at : Law → Roster → List CountedEvent → CountedEvent → Bool
keeps_at Regions r past x = keeps_region x
keeps_at Copies r past x = keeps_copies past x
keeps_at Watchdogs r past x = keeps_watchdogs r.tasks past x
keeps_at Releases r past x = keeps_releases r.tasks past x
keeps_at Starts r past x = keeps_starts r.tasks past x
keeps_at Triggers r past x = keeps_triggers r.tasks x
keeps_at Scans r past x = keeps_scans r.schedule past x
keeps_at Modes r past x = keeps_modes past x
keeps_at Edits r past x = keeps_edits past x
keeps_at Numbers r past x = keeps_numbers x

-- whether a trace keeps it at each of its events
abbrev pub keeps : Law → Roster → List TraceEvent → Bool
keeps law r trace = each_with_past (keeps_at law r) [] (counted_events r.table trace)

abbrev pub KeepsAll : Roster → List TraceEvent → Type 0
KeepsAll r trace = (law : Law) → IsTrue (keeps law r trace)

-- ---- a breach

-- the events before this one keep all laws; those up to and with it break this law, and none of a lesser rank
pub record IsBreach (r : Roster) (trace : List TraceEvent) (law : Law) (at : ℕ) : Type 0 where
  pub there : at < length trace
  pub before : KeepsAll r (take at trace)
  pub broken : keeps law r (take (at + 1) trace) ≡ false
  pub lesser : (k : Law) → rank k < rank law → keeps k r (take (at + 1) trace) ≡ true

-- of a breach, by its law and its event; running out of memory says nothing
abbrev pub IfBreach : LawError → (Law → ℕ → Type 0) → Type 0
IfBreach (judging.Breach law at) P = P law at
IfBreach judging.Memory P = Unit {0}

-- ---- the same as a function

-- a law, and the event that breaks it, counted from 0
pub record Breach : Type 0 where
  pub law : Law
  pub at : ℕ

-- the first law that isn't kept at an event
abbrev pub broken_at : Roster → List CountedEvent → CountedEvent → Option Law
broken_at r past x = find (λ law. not (keeps_at law r past x)) laws

-- the first of these events at which one isn't kept; the number is that of the next
abbrev pub breach_from : Roster → ℕ → List CountedEvent → List CountedEvent → Option Breach
breach_from r at past [] = None
breach_from r at past (x ∷ xs) = elim (broken_at r past x) [
  | Some law ↦ Some (record { law = law; at = at })
  | None ↦ breach_from r (at + 1) (x ∷ past) xs
]

abbrev pub breach : Roster → List TraceEvent → Option Breach
breach r trace = breach_from r 0 [] (counted_events r.table trace)

-- ---- laws: the function says where all are kept, and which breach it is

abbrev pub NoneIsKept : Type 0
NoneIsKept = (r : Roster) (trace : List TraceEvent) → (breach r trace ≡ None) ↔ KeepsAll r trace

abbrev pub SomeIsBreach : Type 0
SomeIsBreach = (r : Roster) (trace : List TraceEvent) (b : Breach) → (breach r trace ≡ Some b) ↔ IsBreach r trace b.law b.at
