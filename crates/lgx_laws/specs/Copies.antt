-- The law of copies: a copy that a task has started goes on in the task's steps, an element each, until the last one, which ends
-- it. Meanwhile the task does nothing else, and it ends no copy that it hasn't started.
use Rattle.std.specs.Prelude.{ℕ, List, [], ◌∷◌, Bool, true, false, not, ◌&&◌, nat_eq, is_none, if◌then◌else◌, Option, Some, None}
use Rattle.spec_schedule.specs.declared.trace.TraceMark.{TraceMark}
use Rattle.spec_schedule.specs.declared.trace.TraceMark.TheVariants.{Plain, Copy, Sync, CopyEnd, SyncEnd}
use Rattle.spec_schedule.specs.declared.trace.StepFault.{StepFault}
use Rattle.spec_schedule.specs.declared.trace.StepFault.TheVariants as fault
use Rattle.spec_schedule.specs.declared.trace.TraceEvent.{TraceEvent}
use Rattle.spec_schedule.specs.declared.trace.TraceEvent.TheVariants.{Began, Step, Left}
use Rattle.spec_schedule.specs.Counting.{Counted, CountedEvent}
use Rattle.spec_laws.specs.CountedBack.{is_up_since}

-- A copy in progress, by whether it is a CPS's. A start begins one, an end leaves none.
abbrev pub copies_on : TraceMark → Option Bool → Option Bool
copies_on Copy before = Some false
copies_on Sync before = Some true
copies_on CopyEnd before = None
copies_on SyncEnd before = None
copies_on _ before = before

-- the task's copy after an event, by the one before it
abbrev pub copied_after : ℕ → TraceEvent → Option Bool → Option Bool
copied_after t (Step u g mark f) before = if nat_eq u t then copies_on mark before else before
copied_after t _ before = before

-- the copy that the task has started since it came up and not ended, by what is counted now
abbrev pub copied : ℕ → List Counted → List CountedEvent → Option Bool
copied t now [] = None
copied t now (x ∷ past) = if is_up_since t now x then copied_after t x.event (copied t x.tasks past) else None

abbrev pub is_plain : StepFault → Bool
is_plain fault.Plain = true
is_plain _ = false

-- A step by the copy that its task has in progress. With none the step may start one. With one it copies an element, the last of
-- which marks the end of a CPS or of another copy, as it was started. Neither has a fault.
abbrev pub goes_on : Option Bool → TraceMark → StepFault → Bool
goes_on None Copy f = is_plain f
goes_on None Sync f = is_plain f
goes_on None CopyEnd f = false
goes_on None SyncEnd f = false
goes_on None _ f = true
goes_on (Some sync) Plain f = is_plain f
goes_on (Some sync) CopyEnd f = is_plain f && not sync
goes_on (Some sync) SyncEnd f = is_plain f && sync
goes_on (Some sync) _ f = false

abbrev pub keeps_copies : List CountedEvent → CountedEvent → Bool
keeps_copies past x = check x.event
  where
    check : TraceEvent → Bool
    check (Began t g v) = is_none (copied t x.tasks past)
    check (Step t g mark f) = goes_on (copied t x.tasks past) mark f
    check (Left t g ended) = is_none (copied t x.tasks past)
    check _ = true
