-- How the text of a trace is read: the event of each line up to the line `end`, or the first line that is refused.
use Rattle.std.specs.Prelude.{ℕ, ◌+◌, List, [], ◌∷◌, take, drop, Bool, true, false, nat_eq, if◌then◌else◌, Option, Some, None, option_map, option_and_then, Result, Ok, Err, codes}
use Rattle.std.specs.Str.{bytes_eq}
use Rattle.spec_base.specs.Pieces.{pieces}
use Rattle.spec_text.specs.TextLines.{unsigned_of}
use Rattle.spec_schedule.specs.declared.trace.TraceMark.{TraceMark}
use Rattle.spec_schedule.specs.declared.trace.TraceMark.TheVariants as mark
use Rattle.spec_schedule.specs.declared.trace.StepFault.{StepFault}
use Rattle.spec_schedule.specs.declared.trace.StepFault.TheVariants as fault
use Rattle.spec_schedule.specs.declared.trace.Verb.{Verb}
use Rattle.spec_schedule.specs.declared.trace.Verb.TheVariants.{Accept, Test, Untest, Assemble, Cancel, Run, Program, Clear, Other}
use Rattle.spec_schedule.specs.declared.trace.TraceAnswer.{TraceAnswer}
use Rattle.spec_schedule.specs.declared.trace.TraceAnswer.TheVariants.{Done, Number, No}
use Rattle.spec_schedule.specs.declared.trace.TraceEvent.{TraceEvent}
use Rattle.spec_schedule.specs.declared.trace.TraceEvent.TheVariants.{Idle, Began, Step, Left, Tick, Act}
use Rattle.spec_schedule.specs.declared.trace.Table.{Table}
use Rattle.lgx_audit.specs.declared.error.TraceCode.{TraceCode}
use Rattle.lgx_audit.specs.declared.error.TraceCode.TheVariants.{K1, K2}
use Rattle.lgx_audit.specs.declared.error.TraceFault.{TraceFault}
use Rattle.lgx_audit.specs.TraceText.{has_form}
use Rattle.lgx_audit.specs.TraceTable.{is_in_table}

infixl 10 ◌>>=◌
abbrev pub ◌>>=◌ : {A B : Type 0} → Option A → (A → Option B) → Option B
o >>= f = option_and_then f o

-- ---- words

abbrev pub is_word : List ℕ → List ℕ → Bool
is_word word wanted = bytes_eq word wanted

-- a zero comes before other digits
abbrev pub is_padded : List ℕ → Bool
is_padded (c ∷ d ∷ ds) = nat_eq c 48
is_padded _ = false

-- a number without needless zeros, with the range of u32
abbrev pub number_of : List ℕ → Option ℕ
number_of word = if is_padded word then None else unsigned_of word

-- a number, or `-` for none
abbrev pub named_of : List ℕ → Option (Option ℕ)
named_of word = if is_word word (codes "-") then Some None else option_map (λ n. Some n) (number_of word)

-- the number after these bytes
abbrev pub number_after : ℕ → List ℕ → List ℕ → Option ℕ
number_after count front word = if is_word (take count word) front then number_of (drop count word) else None

abbrev pub mark_of : List ℕ → Option TraceMark
mark_of word =
    if is_word word (codes "-") then Some mark.Plain else
    (if is_word word (codes "up") then Some mark.Up else
    (if is_word word (codes "down") then Some mark.Down else
    (if is_word word (codes "copy") then Some mark.Copy else
    (if is_word word (codes "sync") then Some mark.Sync else
    (if is_word word (codes "copyend") then Some mark.CopyEnd else
    (if is_word word (codes "syncend") then Some mark.SyncEnd else
    option_map (λ t. mark.Trigger t) (number_after 8 (codes "trigger:") word)))))))

abbrev pub fault_of : List ℕ → Option StepFault
fault_of word =
    if is_word word (codes "-") then Some fault.Plain else
    (if is_word word (codes "minor") then Some fault.Minor else
    (if is_word word (codes "major") then Some fault.Major else None))

abbrev pub verb_of : List ℕ → Option Verb
verb_of word =
    if is_word word (codes "accept") then Some Accept else
    (if is_word word (codes "test") then Some Test else
    (if is_word word (codes "untest") then Some Untest else
    (if is_word word (codes "assemble") then Some Assemble else
    (if is_word word (codes "cancel") then Some Cancel else
    (if is_word word (codes "run") then Some Run else
    (if is_word word (codes "program") then Some Program else
    (if is_word word (codes "clear") then Some Clear else
    (if is_word word (codes "other") then Some Other else None))))))))

abbrev pub answer_of : List ℕ → Option TraceAnswer
answer_of word =
    if is_word word (codes "ok") then Some Done else
    (if is_word word (codes "no") then Some No else
    option_map (λ n. Number n) (number_after 3 (codes "ok:") word))

abbrev pub ended_of : List ℕ → Option Bool
ended_of word =
    if is_word word (codes "ended") then Some true else
    (if is_word word (codes "on") then Some false else None)

-- ---- lines, by the words after their first

abbrev pub began_of : List ℕ → List ℕ → List ℕ → Option TraceEvent
began_of task program version = do
  t ← number_of task
  g ← number_of program
  v ← number_of version
  Some (Began t g v)

abbrev pub step_of : List ℕ → List ℕ → List ℕ → List ℕ → Option TraceEvent
step_of task program marked failed = do
  t ← number_of task
  g ← number_of program
  m ← mark_of marked
  f ← fault_of failed
  Some (Step t g m f)

abbrev pub left_of : List ℕ → List ℕ → List ℕ → Option TraceEvent
left_of task program word = do
  t ← number_of task
  g ← number_of program
  ended ← ended_of word
  Some (Left t g ended)

abbrev pub tick_of : List ℕ → List ℕ → List ℕ → Option TraceEvent
tick_of released overlapped word = do
  r ← number_of released
  o ← number_of overlapped
  w ← named_of word
  Some (Tick r o w)

abbrev pub act_of : List ℕ → List ℕ → List ℕ → List ℕ → List ℕ → Option TraceEvent
act_of lane word program answered released = do
  l ← number_of lane
  v ← verb_of word
  g ← named_of program
  a ← answer_of answered
  r ← number_of released
  Some (Act l v g a r)

-- the event of a line's words
abbrev pub event_of : List (List ℕ) → Option TraceEvent
event_of (w ∷ []) = if is_word w (codes "idle") then Some Idle else None
event_of (w ∷ a ∷ b ∷ c ∷ []) =
    if is_word w (codes "began") then began_of a b c else
    (if is_word w (codes "left") then left_of a b c else
    (if is_word w (codes "tick") then tick_of a b c else None))
event_of (w ∷ a ∷ b ∷ c ∷ d ∷ []) = if is_word w (codes "step") then step_of a b c d else None
event_of (w ∷ a ∷ b ∷ c ∷ d ∷ e ∷ []) = if is_word w (codes "act") then act_of a b c d e else None
event_of _ = None

-- ---- the first cause of a line, and the first line that has one

-- words are separated by exactly one space
abbrev pub words_of : List ℕ → List (List ℕ)
words_of line = pieces 32 line

-- the event of a line, or its first cause
abbrev pub read_line : Table → List ℕ → Result TraceEvent TraceCode
read_line table line = elim (event_of (words_of line)) [
  | None ↦ Err K1
  | Some e ↦ if has_form e then (if is_in_table table e then Ok e else Err K2) else Err K1
]

abbrev pub refused : ℕ → TraceCode → Result (List TraceEvent) TraceFault
refused n code = Err (record { code = code; line = n })

abbrev pub before_rest : TraceEvent → Result (List TraceEvent) TraceFault → Result (List TraceEvent) TraceFault
before_rest e (Err fault) = Err fault
before_rest e (Ok es) = Ok (e ∷ es)

abbrev pub is_end : List ℕ → Bool
is_end line = bytes_eq line (codes "end")

-- The lines from number n on. The last piece has no line feed, and so is no line: a text without the line `end` is refused
-- there, which is the line after its last if nothing follows that one.
abbrev pub trace_from : ℕ → Table → List (List ℕ) → Result (List TraceEvent) TraceFault
trace_from n table [] = refused n K1
trace_from n table (p ∷ []) = refused n K1
trace_from n table (p ∷ q ∷ ps) =
    elim (is_end p) [
      | true ↦ Ok []
      | false ↦ elim (read_line table p) [ Err code ↦ refused n code | Ok e ↦ before_rest e (trace_from (n + 1) table (q ∷ ps)) ]
    ]

-- the trace that a text is, or the first line with a cause and its first cause; what follows the line `end` isn't read
abbrev pub trace_of : Table → List ℕ → Result (List TraceEvent) TraceFault
trace_of table bytes = trace_from 1 table (pieces 10 bytes)
