-- The text of a trace: the line of each event, and the line `end`.
use Rattle.std.specs.Prelude.{ℕ, List, [], ◌∷◌, ◌++◌, flat_map, Bool, true, false, ◌&&◌, ◌||◌, Option, Some, None, codes, decimal}
use Rattle.spec_text.specs.TextLines.{line_of}
use Rattle.spec_schedule.specs.declared.trace.TraceMark.{TraceMark}
use Rattle.spec_schedule.specs.declared.trace.TraceMark.TheVariants as mark
use Rattle.spec_schedule.specs.declared.trace.StepFault.{StepFault}
use Rattle.spec_schedule.specs.declared.trace.StepFault.TheVariants as fault
use Rattle.spec_schedule.specs.declared.trace.Verb.{Verb}
use Rattle.spec_schedule.specs.declared.trace.Verb.TheVariants.{Accept, Test, Untest, Assemble, Cancel, Run, Program, Clear, Other}
use Rattle.spec_schedule.specs.declared.trace.TraceAnswer.{TraceAnswer}
use Rattle.spec_schedule.specs.declared.trace.TraceAnswer.TheVariants.{Done, Number, No}
use Rattle.spec_schedule.specs.declared.trace.TraceEvent.{TraceEvent}
use Rattle.spec_schedule.specs.declared.trace.TraceEvent.TheVariants.{Idle, Began, Step, Left, Tick, Act}

-- ---- words

-- what the instruction or the copied element of a step did
abbrev pub mark_word : TraceMark → List ℕ
mark_word mark.Plain = codes "-"
mark_word mark.Up = codes "up"
mark_word mark.Down = codes "down"
mark_word (mark.Trigger t) = codes "trigger:" ++ decimal t
mark_word mark.Copy = codes "copy"
mark_word mark.Sync = codes "sync"
mark_word mark.CopyEnd = codes "copyend"
mark_word mark.SyncEnd = codes "syncend"

abbrev pub fault_word : StepFault → List ℕ
fault_word fault.Plain = codes "-"
fault_word fault.Minor = codes "minor"
fault_word fault.Major = codes "major"

abbrev pub verb_word : Verb → List ℕ
verb_word Accept = codes "accept"
verb_word Test = codes "test"
verb_word Untest = codes "untest"
verb_word Assemble = codes "assemble"
verb_word Cancel = codes "cancel"
verb_word Run = codes "run"
verb_word Program = codes "program"
verb_word Clear = codes "clear"
verb_word Other = codes "other"

abbrev pub answer_word : TraceAnswer → List ℕ
answer_word Done = codes "ok"
answer_word (Number n) = codes "ok:" ++ decimal n
answer_word No = codes "no"

-- whether a program has left its last routine
abbrev pub ended_word : Bool → List ℕ
ended_word true = codes "ended"
ended_word false = codes "on"

-- a number, or `-` where there is none
abbrev pub number_word : Option ℕ → List ℕ
number_word None = codes "-"
number_word (Some n) = decimal n

-- ---- lines

abbrev pub line_words : TraceEvent → List (List ℕ)
line_words Idle = codes "idle" ∷ []
line_words (Began t g v) = codes "began" ∷ decimal t ∷ decimal g ∷ decimal v ∷ []
line_words (Step t g mark fault) = codes "step" ∷ decimal t ∷ decimal g ∷ mark_word mark ∷ fault_word fault ∷ []
line_words (Left t g ended) = codes "left" ∷ decimal t ∷ decimal g ∷ ended_word ended ∷ []
line_words (Tick r o watchdog) = codes "tick" ∷ decimal r ∷ decimal o ∷ number_word watchdog ∷ []
line_words (Act lane verb g answer r) = codes "act" ∷ decimal lane ∷ verb_word verb ∷ number_word g ∷ answer_word answer ∷ decimal r ∷ []

abbrev pub event_line : TraceEvent → List ℕ
event_line e = line_of (line_words e)

abbrev pub end_line : List ℕ
end_line = codes "end" ++ 10 ∷ []

-- a line for each event, and the line `end`
abbrev pub text_of : List TraceEvent → List ℕ
text_of trace = flat_map event_line trace ++ end_line

-- ---- the events that have a line

-- an edit names a program; no other action does
abbrev pub is_edit : Verb → Bool
is_edit Accept = true
is_edit Test = true
is_edit Untest = true
is_edit Assemble = true
is_edit Cancel = true
is_edit _ = false

abbrev pub is_none : Option ℕ → Bool
is_none None = true
is_none (Some n) = false

-- an accept that is done has a number, and no other action has one
abbrev pub is_answer : Verb → TraceAnswer → Bool
is_answer Accept Done = false
is_answer Accept _ = true
is_answer _ (Number n) = false
is_answer _ _ = true

abbrev pub has_form : TraceEvent → Bool
has_form (Act lane verb g answer r) = (is_edit verb || is_none g) && is_answer verb answer
has_form _ = true
