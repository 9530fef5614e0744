-- What a program's words ask for.
use Rattle.std.specs.Prelude.{ℕ, ◌^◌, ◌-◌, List, [], ◌∷◌, ◌++◌, length, Bool, ◌&&◌, ◌||◌, not, nat_le, nat_lt, if◌then◌else◌, codes, ℤ, Option, Some, None, option_map}
use Rattle.std.specs.Option.{option_and_then, option_or}
use Rattle.std.specs.List.{list_any}
use Rattle.std.specs.Str.{bytes_eq}
use Rattle.spec_base.specs.Pieces.{pieces}
use Rattle.spec_text.specs.TextLines.{unsigned_of, signed_of}
use Rattle.spec_machine.specs.declared.limits.TheConstants.{MAX_WATCHES}
use Rattle.lgx_chart.specs.declared.clock.Clock.{Clock}
use Rattle.lgx_chart.specs.declared.clock.Clock.TheVariants.{Step, Tick}
use Rattle.lgx_chart.specs.declared.asked.View.{View}
use Rattle.lgx_chart.specs.declared.asked.WatchedPlace.{WatchedPlace}
use Rattle.lgx_chart.specs.declared.asked.Asked.{Asked}
use Rattle.lgx_chart.specs.declared.asked.TheConstants.{MIN_WIDTH, MAX_WIDTH}
use Rattle.lgx_chart.specs.Words.{is_word}

-- ---- options of numbers

-- all of the time, as wide as the picture is
abbrev pub whole : Clock → View
whole clock = record { clock = clock; from = 0; to = 2 ^ 32 - 1; width = None }

abbrev pub is_width : ℕ → Bool
is_width number = nat_le MIN_WIDTH number && nat_le number MAX_WIDTH

abbrev pub with_width : View → ℕ → Option View
with_width view number = if is_width number then Some (record view { width = Some number }) else None

abbrev pub from_time : View → ℕ → View
from_time view number = record view { from = number }

abbrev pub to_time : View → ℕ → View
to_time view number = record view { to = number }

-- `--from N`, `--to N`, `--width N`
abbrev pub with_number : View → List ℕ → Option ℕ → Option View
with_number view word None = None
with_number view word (Some n) =
    if bytes_eq word (codes "--from") then Some (from_time view n) else (if bytes_eq word (codes "--to") then Some (to_time view n) else (if bytes_eq word (codes "--width") then with_width view n else None))

-- ---- watched places

-- a BOOL or a number that starts with that value
abbrev pub starting : Bool → List ℕ → ℤ → WatchedPlace
starting is_bool name value = record { name = name; is_bool = is_bool; start = Some value }

-- `NAME=VALUE`
abbrev pub started : Bool → List (List ℕ) → Option WatchedPlace
started is_bool (name ∷ value ∷ []) = if is_word name then option_map (starting is_bool name) (signed_of value) else None
started is_bool _ = None

abbrev pub is_place_word : List ℕ → Bool
is_place_word word = bytes_eq word (codes "--bool") || bytes_eq word (codes "--number")

-- `--bool NAME=VALUE`, `--number NAME=VALUE`
abbrev pub place_of : List ℕ → List ℕ → Option WatchedPlace
place_of word value =
    if is_place_word word then started (bytes_eq word (codes "--bool")) (pieces 61 value) else None

abbrev pub is_told : List WatchedPlace → List ℕ → Bool
is_told places name = list_any (λ p. bytes_eq p.name name) places

-- a place is given once, and there are no more than a project watches
abbrev pub may_tell : List WatchedPlace → List ℕ → Bool
may_tell places name = not (is_told places name) && nat_lt (length places) MAX_WATCHES

abbrev pub with_place : Asked → WatchedPlace → Option Asked
with_place a p = if may_tell a.places p.name then Some (record a { places = a.places ++ p ∷ [] }) else None

-- ---- all words

abbrev pub viewed : Asked → View → Asked
viewed a view = record a { view = view }

-- with one option more
abbrev pub with_option : Asked → List ℕ → List ℕ → Option Asked
with_option a word value =
    option_or (option_map (viewed a) (with_number a.view word (unsigned_of value))) (option_and_then (with_place a) (place_of word value))

-- options, each of two words
abbrev pub asked_by : Asked → List (List ℕ) → Option Asked
asked_by a [] = Some a
asked_by a (word ∷ []) = None
asked_by a (word ∷ value ∷ more) = option_and_then (λ b. asked_by b more) (with_option a word value)

abbrev pub untold : Clock → Asked
untold clock = record { view = whole clock; places = [] }

-- the time doesn't end before it begins
abbrev pub is_forward : Asked → Bool
is_forward a = nat_le a.view.from a.view.to

abbrev pub forward : Asked → Option Asked
forward a = if is_forward a then Some a else None

-- the word `tick` or none, and then options
abbrev pub from_words : List (List ℕ) → Option Asked
from_words [] = Some (untold Step)
from_words (word ∷ more) =
    if bytes_eq word (codes "tick") then asked_by (untold Tick) more else asked_by (untold Step) (word ∷ more)

abbrev pub asked_of : List (List ℕ) → Option Asked
asked_of words = option_and_then forward (from_words words)
