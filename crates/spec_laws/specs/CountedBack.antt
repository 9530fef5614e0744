-- What is counted back along a trace: for how many ticks a task has been up, and for how many the controller has been in
-- Run. The events of the past come with the latest first.
use Rattle.std.specs.Prelude.{ℕ, ◌+◌, List, [], ◌∷◌, slice_index_or, Bool, true, false, ◌&&◌, nat_eq, if◌then◌else◌, Option, Some, None, option_map}
use Rattle.spec_schedule.specs.declared.trace.Verb.TheVariants.{Run}
use Rattle.spec_schedule.specs.declared.trace.TraceAnswer.TheVariants.{Done}
use Rattle.spec_schedule.specs.declared.trace.TraceEvent.{TraceEvent}
use Rattle.spec_schedule.specs.declared.trace.TraceEvent.TheVariants.{Act}
use Rattle.spec_schedule.specs.Counting.{Counted, uncounted, stops, CountedEvent}
use Rattle.spec_schedule.specs.Legal.{at, is_tick}

-- one at a tick
abbrev pub ticks_in : TraceEvent → ℕ
ticks_in e = if is_tick e then 1 else 0

-- the task was up just before event x, and hasn't gone down since
abbrev pub is_up_since : ℕ → List Counted → CountedEvent → Bool
is_up_since t now x = (at x t).up && nat_eq (at x t).downs (slice_index_or now t uncounted).downs

-- The ticks since the task came up, by what is counted now. One at which it came up isn't among them.
abbrev pub ticks_up : ℕ → List Counted → List CountedEvent → ℕ
ticks_up t now [] = 0
ticks_up t now (x ∷ past) = if is_up_since t now x then ticks_in x.event + ticks_up t x.tasks past else 0

-- a change to Run that was answered `Done`
abbrev pub comes_to_run : TraceEvent → Bool
comes_to_run (Act _ Run _ Done _) = true
comes_to_run _ = false

-- The ticks since the last change to Run; none if the controller isn't in Run, which it leaves with a major fault, a
-- watchdog or a change to Program.
abbrev pub ticks_in_run : List CountedEvent → Option ℕ
ticks_in_run [] = None
ticks_in_run (x ∷ past) =
    if comes_to_run x.event then Some 0 else (if stops x.event then None else option_map (λ n. ticks_in x.event + n) (ticks_in_run past))

-- a test of each event, with those before it
abbrev pub each_with_past : (List CountedEvent → CountedEvent → Bool) → List CountedEvent → List CountedEvent → Bool
each_with_past test past [] = true
each_with_past test past (x ∷ xs) = test past x && each_with_past test (x ∷ past) xs
