-- The law of edits, by the lane that owns a program's edits, and the law of numbers of accepts.
use Rattle.std.specs.Prelude.{ℕ, ◌+◌, List, [], ◌∷◌, slice_index_or, Bool, true, false, not, ◌&&◌, ◌||◌, nat_eq, is_none, if◌then◌else◌, Option, Some, None}
use Rattle.spec_schedule.specs.declared.trace.Verb.{Verb}
use Rattle.spec_schedule.specs.declared.trace.Verb.TheVariants.{Accept, Test, Untest, Assemble, Cancel}
use Rattle.spec_schedule.specs.declared.trace.TraceAnswer.{TraceAnswer}
use Rattle.spec_schedule.specs.declared.trace.TraceAnswer.TheVariants.{Done, Number, No}
use Rattle.spec_schedule.specs.declared.trace.TraceEvent.{TraceEvent}
use Rattle.spec_schedule.specs.declared.trace.TraceEvent.TheVariants.{Act}
use Rattle.spec_schedule.specs.Counting.{Numbers, unedited, CountedEvent}
use Rattle.lgx_audit.specs.TraceText.{is_edit}

-- ---- the edits of a program

-- The lane that owns the program's edits, from its first accept to their assembly or cancellation, and whether it has tested them.
-- An accept alone doesn't show that there are any: one without an edit owns the program too.
pub record Owned : Type 0 where
  pub owner : Option ℕ
  pub tested : Bool

abbrev pub unowned : Owned
unowned = record { owner = None; tested = false }

abbrev pub owned_by : ℕ → Verb → TraceAnswer → Owned → Owned
owned_by lane Accept (Number n) o = record o { owner = Some lane }
owned_by lane Test Done o = record o { tested = true }
owned_by lane Assemble Done o = unowned
owned_by lane Cancel Done o = unowned
owned_by lane _ _ o = o

abbrev pub owned_after : ℕ → TraceEvent → Owned → Owned
owned_after g (Act lane verb (Some h) answer mask) o = if nat_eq g h then owned_by lane verb answer o else o
owned_after g _ o = o

-- of program g, by the events of the past
abbrev pub owned : ℕ → List CountedEvent → Owned
owned g [] = unowned
owned g (x ∷ past) = owned_after g x.event (owned g past)

-- ---- the law of edits

abbrev pub owns : ℕ → Option ℕ → Bool
owns lane None = false
owns lane (Some owner) = nat_eq owner lane

-- The owner tests its edits unless they are tested already, takes them back if they are, and assembles or cancels them.
-- Another lane does none of this. It accepts where no lane owns the program.
abbrev pub may_be_done : Verb → ℕ → Owned → Numbers → Bool
may_be_done Accept lane o n = is_none o.owner || owns lane o.owner
may_be_done Test lane o n = owns lane o.owner && not n.testing
may_be_done Untest lane o n = owns lane o.owner && n.testing
may_be_done _ lane o n = owns lane o.owner

-- An accept may be refused for its texts. The others aren't refused where they may be done and the edits have been tested, since
-- then there are some.
abbrev pub may_be_refused : Verb → ℕ → Owned → Numbers → Bool
may_be_refused Accept lane o n = true
may_be_refused verb lane o n = not (may_be_done verb lane o n && o.tested)

-- an edit on a program by its answer
abbrev pub answers_edit : Verb → ℕ → Owned → Numbers → TraceAnswer → Bool
answers_edit verb lane o n No = may_be_refused verb lane o n
answers_edit verb lane o n _ = may_be_done verb lane o n

-- an edit that names no program is refused
abbrev pub is_refused : TraceAnswer → Bool
is_refused No = true
is_refused _ = false

abbrev pub keeps_edits : List CountedEvent → CountedEvent → Bool
keeps_edits past x = check x.event
  where
    check : TraceEvent → Bool
    check (Act lane verb (Some g) answer _) = not (is_edit verb) || answers_edit verb lane (owned g past) (slice_index_or x.programs g unedited) answer
    check (Act lane verb None answer _) = not (is_edit verb) || is_refused answer
    check _ = true

-- ---- the law of numbers

-- the accepts of a program are numbered 1, 2, .., and never start again
abbrev pub keeps_numbers : CountedEvent → Bool
keeps_numbers x = check x.event
  where
    check : TraceEvent → Bool
    check (Act _ Accept (Some g) (Number n) _) = nat_eq n ((slice_index_or x.programs g unedited).merged + 1)
    check _ = true
