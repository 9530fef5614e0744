-- The forms of a report's lines, by their words.
use Rattle.std.specs.Prelude.{ℕ, List, [], ◌∷◌, Bool, false, ◌&&◌, ◌||◌, if◌then◌else◌, codes, Option, Some, None, is_some, option_map}
use Rattle.std.specs.Option.{option_and_then}
use Rattle.std.specs.Str.{bytes_eq}
use Rattle.lgx_num.specs.Name.{is_name}
use Rattle.spec_base.specs.Pieces.{pieces}
use Rattle.spec_text.specs.TextLines.{unsigned_of, signed_of}
use Rattle.lgx_chart.specs.declared.entry.Note.{Note}
use Rattle.lgx_chart.specs.declared.entry.Note.TheVariants.{Begin, Reply, Fault, Set}
use Rattle.lgx_chart.specs.declared.entry.Entry.{Entry}
use Rattle.lgx_chart.specs.declared.entry.End.{End}
use Rattle.lgx_chart.specs.Words.{is_word, are_words}

-- `TASK PROGRAM VERSION`
abbrev pub begun : List ℕ → List ℕ → List ℕ → Option Note
begun task program version =
    option_and_then (λ v. if is_name task && is_name program then Some (Begin task program v) else None) (unsigned_of version)

abbrev pub begin_of : List (List ℕ) → Option Note
begin_of (task ∷ program ∷ version ∷ []) = begun task program version
begin_of _ = None

-- a word that went out, or the number of an accept
abbrev pub is_number : List ℕ → Bool
is_number word = is_some (signed_of word) || is_some (unsigned_of word)

-- `ok`, `held`, `ok N`, or `refused` and the words of a cause, at least one
abbrev pub is_answer : List (List ℕ) → Bool
is_answer [] = false
is_answer (word ∷ []) = bytes_eq word (codes "ok") || bytes_eq word (codes "held")
is_answer (word ∷ number ∷ []) =
    (bytes_eq word (codes "ok") && is_number number) || (bytes_eq word (codes "refused") && is_word number)
is_answer (word ∷ cause ∷ place ∷ places) = bytes_eq word (codes "refused") && are_words (cause ∷ place ∷ places)

-- `LANE ANSWER`
abbrev pub reply_of : List (List ℕ) → Option Note
reply_of [] = None
reply_of (lane ∷ answer) = if is_some (unsigned_of lane) && is_answer answer then Some (Reply (lane ∷ answer)) else None

abbrev pub is_severity : List ℕ → Bool
is_severity word = bytes_eq word (codes "minor") || bytes_eq word (codes "major")

-- `TYPE/CODE`
abbrev pub are_two_numbers : List (List ℕ) → Bool
are_two_numbers (kind ∷ code ∷ []) = is_some (unsigned_of kind) && is_some (unsigned_of code)
are_two_numbers _ = false

abbrev pub is_fault_number : List ℕ → Bool
is_fault_number word = are_two_numbers (pieces 47 word)

-- a program's name, or `-` for none
abbrev pub is_program : List ℕ → Bool
is_program word = is_name word || bytes_eq word (codes "-")

-- `SEVERITY TYPE/CODE TASK PROGRAM`
abbrev pub are_fault_words : List ℕ → List ℕ → List ℕ → List ℕ → Bool
are_fault_words severity number task program =
    is_severity severity && is_fault_number number && is_name task && is_program program

abbrev pub fault_of : List (List ℕ) → Option Note
fault_of (severity ∷ number ∷ task ∷ program ∷ []) =
    if are_fault_words severity number task program then Some (Fault (severity ∷ number ∷ task ∷ program ∷ [])) else None
fault_of _ = None

-- `WATCH VALUE`
abbrev pub set_of : List (List ℕ) → Option Note
set_of (watch ∷ value ∷ []) = option_and_then (λ v. if is_word watch then Some (Set watch v) else None) (signed_of value)
set_of _ = None

abbrev pub note_of : List ℕ → List (List ℕ) → Option Note
note_of kind words =
    if bytes_eq kind (codes "begin") then begin_of words else (if bytes_eq kind (codes "reply") then reply_of words else (if bytes_eq kind (codes "fault") then fault_of words else (if bytes_eq kind (codes "set") then set_of words else None)))

abbrev pub stamped : ℕ → ℕ → Note → Entry
stamped tick step note = record { tick = tick; step = step; note = note }

-- `TICK STEP KIND ..`: a line before the end line
abbrev pub entry_of : List (List ℕ) → Option Entry
entry_of (tick ∷ step ∷ kind ∷ words) =
    option_and_then (λ t. option_and_then (λ s. option_map (stamped t s) (note_of kind words)) (unsigned_of step)) (unsigned_of tick)
entry_of _ = None

abbrev pub is_mode : List ℕ → Bool
is_mode word = bytes_eq word (codes "program") || bytes_eq word (codes "run") || bytes_eq word (codes "faulted")

abbrev pub ended : List ℕ → ℕ → ℕ → ℕ → End
ended mode tick step lost = record { tick = tick; step = step; mode = mode; lost = lost }

abbrev pub are_end_words : List ℕ → List ℕ → List ℕ → Bool
are_end_words first mode lost = bytes_eq first (codes "end") && is_mode mode && bytes_eq lost (codes "lost")

-- the end that these words give
abbrev pub end_at : List ℕ → List ℕ → List ℕ → List ℕ → Option End
end_at tick step mode count =
    option_and_then (λ t. option_and_then (λ s. option_map (ended mode t s) (unsigned_of count)) (unsigned_of step)) (unsigned_of tick)

-- `end TICK STEP MODE lost N`
abbrev pub end_of : List (List ℕ) → Option End
end_of (first ∷ tick ∷ step ∷ mode ∷ lost ∷ count ∷ []) =
    if are_end_words first mode lost then end_at tick step mode count else None
end_of _ = None
