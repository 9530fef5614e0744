-- What is counted along a trace, as the audit keeps it.
use Rattle.std.specs.Prelude.{◌≡◌, ℕ, ◌<◌, List, length, map, replicate, fold, slice_index_or, Bool, true, false, not, nat_eq, Option, Some, None}
use Rattle.lgx_audit.specs.declared.counts.Count.{Count}
use Rattle.lgx_audit.specs.declared.numbers.Tally.{Tally}
use Rattle.spec_schedule.specs.declared.trace.TraceEvent.{TraceEvent}
use Rattle.spec_schedule.specs.declared.trace.TraceEvent.TheVariants.{Began, Step, Tick, Act}
use Rattle.spec_schedule.specs.declared.trace.TraceMark.TheVariants.{Trigger}
use Rattle.spec_schedule.specs.declared.trace.StepFault.TheVariants.{Major}
use Rattle.spec_schedule.specs.declared.trace.Verb.TheVariants.{Program}
use Rattle.spec_schedule.specs.declared.trace.Table.{Table}
use Rattle.spec_schedule.specs.Counting.{Counted, uncounted, counted_all, Numbers, unedited, edited_all, stepping, CountedEvent}

-- the counts of a task
abbrev pub shown : Counted → Count
shown c = record { up = c.up; ended = c.ended; regions = c.region_count; cps_open = c.cps_open; downs = c.downs }

abbrev pub no_count : Count
no_count = shown uncounted

-- these are the counts of these tasks
pub record Shown (xs : List Count) (cs : List Counted) : Type 0 where
  pub many : length xs ≡ length cs
  pub each : (t : ℕ) → t < length cs → slice_index_or xs t no_count ≡ shown (slice_index_or cs t uncounted)

-- what is counted after a trace, of its tasks and of its programs
abbrev pub counts_after : Table → List TraceEvent → List Counted
counts_after table trace = fold (λ cs e. counted_all table.tasks e cs) (map (λ d. uncounted) table.tasks) trace

abbrev pub numbers_after : Table → List TraceEvent → List Numbers
numbers_after table trace = fold (λ ns e. edited_all e ns) (replicate table.programs unedited) trace

-- an event after a trace, with what is counted of the trace
abbrev pub place_after : Table → List TraceEvent → TraceEvent → CountedEvent
place_after table trace e = record { tasks = counts_after table trace; programs = numbers_after table trace; event = e }

-- the task of a step is in the table
abbrev pub IsWithin : ℕ → TraceEvent → Type 0
IsWithin n e = (t : ℕ) → stepping e ≡ Some t → t < n

-- ---- events that change one task alone

-- the event may change the counts of a task that doesn't step in it
abbrev pub is_for_all : TraceEvent → Bool
is_for_all (Step t g mark Major) = true
is_for_all (Step t g (Trigger u) fault) = true
is_for_all (Tick r o w) = true
is_for_all (Act lane Program g answer r) = true
is_for_all (Act lane verb g answer r) = not (nat_eq r 0)
is_for_all _ = false

-- ---- numbers of programs

abbrev pub numbers_in : Tally → Numbers
numbers_in t = record { base = t.base; merged = t.merged; testing = t.testing }

abbrev pub no_tally : Tally
no_tally = record { base = 0; merged = 0; testing = false }

-- these are the numbers of these programs
pub record AreNumbersIn (ts : List Tally) (ns : List Numbers) : Type 0 where
  pub many : length ts ≡ length ns
  pub each : (g : ℕ) → g < length ns → numbers_in (slice_index_or ts g no_tally) ≡ slice_index_or ns g unedited

-- the program that a begin or an edit is of
abbrev pub program_of : TraceEvent → Option ℕ
program_of (Began t g v) = Some g
program_of (Act lane verb g answer r) = g
program_of _ = None

abbrev pub IsOfPrograms : ℕ → TraceEvent → Type 0
IsOfPrograms n e = (g : ℕ) → program_of e ≡ Some g → g < n
