-- The law of scans: a task that steps begins its next program if no program scan of it is in progress, and else goes on in
-- that one, until it ends.
use Rattle.std.specs.Prelude.{ℕ, List, [], ◌∷◌, slice_index, slice_index_or, Bool, true, ◌&&◌, nat_eq, is_none, if◌then◌else◌, Option, Some, None}
use Rattle.spec_schedule.specs.declared.trace.TraceEvent.{TraceEvent}
use Rattle.spec_schedule.specs.declared.trace.TraceEvent.TheVariants.{Began, Step, Left}
use Rattle.spec_schedule.specs.Counting.{Counted, CountedEvent, is_task}
use Rattle.spec_schedule.specs.Legal.{at}
use Rattle.spec_laws.specs.CountedBack.{is_up_since}

-- the program of the task's scan after an event, by the one before it
abbrev pub scanned_after : ℕ → TraceEvent → Option ℕ → Option ℕ
scanned_after t (Began u g v) before = if nat_eq u t then Some g else before
scanned_after t (Left u g true) before = if nat_eq u t then None else before
scanned_after t _ before = before

-- the program that the task has begun since it came up and not ended, by what is counted now
abbrev pub scanned : ℕ → List Counted → List CountedEvent → Option ℕ
scanned t now [] = None
scanned t now (x ∷ past) = if is_up_since t now x then scanned_after t x.event (scanned t x.tasks past) else None

-- the task's next program, by how many have ended since it came up
abbrev pub program_in_turn : List (List ℕ) → CountedEvent → ℕ → ℕ
program_in_turn schedule x t = slice_index (slice_index_or schedule t []) (at x t).ended

abbrev pub keeps_scans : List (List ℕ) → List CountedEvent → CountedEvent → Bool
keeps_scans schedule past x = check x.event
  where
    check : TraceEvent → Bool
    check (Began t g v) = is_none (scanned t x.tasks past) && nat_eq g (program_in_turn schedule x t)
    check (Step t g mark f) = is_task g (scanned t x.tasks past)
    check (Left t g ended) = is_task g (scanned t x.tasks past)
    check _ = true
