-- A report as the text of a wave file: a value change dump (IEEE 1364), with the strings that GTKWave reads.
use Rattle.std.specs.Prelude.{ℕ, zero, suc, ◌+◌, ◌/◌, ◌%◌, List, [], ◌∷◌, ◌++◌, min, max, Bool, true, false, nat_eq, if◌then◌else◌, codes, ℤ, pos, Option, Some, None}
use Rattle.std.specs.Fmt.{decimal}
use Rattle.std.specs.Int.{w32, cast_unsigned}
use Rattle.std.specs.Ordering.{int_eq}
use Rattle.std.specs.List.{list_all, flat_map, join_with_byte}
use Rattle.spec_base.specs.Pieces.{is_empty}
use Rattle.lgx_num.specs.Name.{is_name_byte}
use Rattle.lgx_chart.specs.declared.entry.Note.{Note}
use Rattle.lgx_chart.specs.declared.entry.Note.TheVariants.{Begin, Reply, Fault, Set}
use Rattle.lgx_chart.specs.declared.entry.Entry.{Entry}
use Rattle.lgx_chart.specs.declared.entry.End.{End}
use Rattle.lgx_chart.specs.declared.entry.Chart.{Chart}
use Rattle.lgx_chart.specs.declared.clock.Clock.{Clock}
use Rattle.lgx_chart.specs.declared.clock.Clock.TheVariants.{Step, Tick}
use Rattle.lgx_chart.specs.declared.asked.View.{View}
use Rattle.lgx_chart.specs.declared.asked.WatchedPlace.{WatchedPlace}
use Rattle.lgx_chart.specs.declared.asked.Asked.{Asked}
use Rattle.lgx_chart.specs.Clocks.{time_of}
use Rattle.lgx_chart.specs.Places.{is_shown, is_bool, places_of}

-- ---- values

-- a number's lowest binary digits, as many as the first number says, the highest of them first
unfoldable pub binary : ℕ → ℕ → List ℕ
binary zero n = []
binary (suc count) n = binary count (n / 2) ++ (48 + n % 2) ∷ []

-- a DINT in two's complement
abbrev pub bits_of : ℤ → List ℕ
bits_of value = binary 32 (cast_unsigned w32 value)

-- the level of a one-bit wire
abbrev pub level_of : ℤ → List ℕ
level_of value = if int_eq value (pos 0) then codes "0" else codes "1"

-- a BOOL is a one-bit wire, any other value has 32 bits
abbrev pub value_of : Bool → ℤ → List ℕ
value_of true value = level_of value
value_of false value = codes "b" ++ bits_of value ++ codes " "

-- the program that began, and its version
abbrev pub begun : List ℕ → ℕ → List ℕ
begun program version = codes "s" ++ program ++ codes ":" ++ decimal version

-- a watched place, whose signal is `w:` and its text, has this value
abbrev pub valued : Bool → List ℕ → ℤ → List ℕ
valued is_bool watch value = value_of is_bool value ++ codes "w:" ++ watch ++ codes "\n"

-- What a line changes. A task's signal, `t:` and its name, has the program that began and its version. Strings have no spaces.
abbrev pub change : List WatchedPlace → Note → List ℕ
change places (Begin task program version) = begun program version ++ codes " t:" ++ task ++ codes "\n"
change places (Reply words) = codes "s" ++ join_with_byte 95 words ++ codes " reply\n"
change places (Fault words) = codes "s" ++ join_with_byte 95 words ++ codes " fault\n"
change places (Set watch value) = valued (is_bool places watch) watch value

-- ---- times

abbrev pub is_now : Option ℕ → ℕ → Bool
is_now None time = false
is_now (Some last) time = nat_eq last time

-- a time is before the first of its changes
abbrev pub stamp : Option ℕ → ℕ → List ℕ
stamp last time = if is_now last time then [] else codes "#" ++ decimal time ++ codes "\n"

-- the time of the end, within the times that are shown
abbrev pub last_time : View → End → ℕ
last_time view end = max view.from (min view.to (time_of view.clock end.tick end.step))

-- the changes that are shown, each after its time, and the last time
abbrev pub changes_from : View → List WatchedPlace → Option ℕ → List Entry → End → List ℕ
changes_from view places last [] end = stamp last (last_time view end)
changes_from view places last (e ∷ es) end =
    if is_shown view e then stamp last (time_of view.clock e.tick e.step) ++ change places e.note ++ changes_from view places (Some (time_of view.clock e.tick e.step)) es end else changes_from view places last es end

-- ---- the fixed texts

unfoldable pub version_text : List ℕ
version_text = codes "$version logix_wave $end\n$comment ends in "

unfoldable pub lost_text : List ℕ
lost_text = codes ", lines lost: "

unfoldable pub timescale_text : List ℕ
timescale_text = codes " $end\n$timescale "

unfoldable pub end_text : List ℕ
end_text = codes " $end\n"

unfoldable pub task_text : List ℕ
task_text = codes "$var string 1 t:"

unfoldable pub wire_text : List ℕ
wire_text = codes "$var wire 1 w:"

unfoldable pub watch_text : List ℕ
watch_text = codes "$var integer 32 w:"

unfoldable pub tasks_scope : List ℕ
tasks_scope = codes "$scope module tasks $end\n"

unfoldable pub watches_scope : List ℕ
watches_scope = codes "$upscope $end\n$scope module watches $end\n"

unfoldable pub other_signals : List ℕ
other_signals =
    codes "$upscope $end\n$var string 1 reply reply $end\n$var string 1 fault fault $end\n$enddefinitions $end\n"

unfoldable pub values_text : List ℕ
values_text = codes "$dumpvars\n"

-- nothing was answered, and no fault was recorded
unfoldable pub idle_text : List ℕ
idle_text = codes "s- reply\ns- fault\n$end\n"

-- ---- signals

-- a text that isn't letters, digits and underscores alone is written with a backslash before it
abbrev pub reference : List ℕ → List ℕ
reference text = if list_all is_name_byte text then text else codes "\\" ++ text

abbrev pub task_signal : List ℕ → List ℕ
task_signal task = task_text ++ task ++ codes " " ++ task ++ end_text

abbrev pub kind_text : Bool → List ℕ
kind_text true = wire_text
kind_text false = watch_text

abbrev pub watch_signal : WatchedPlace → List ℕ
watch_signal p = kind_text p.is_bool ++ p.name ++ codes " " ++ reference p.name ++ end_text

-- A tick is a millisecond. A processor step has no length of its own; it is written as one nanosecond.
abbrev pub unit_of : Clock → List ℕ
unit_of Step = codes "1 ns"
unit_of Tick = codes "1 ms"

-- how the report ends
abbrev pub ending : End → List ℕ
ending end = version_text ++ end.mode ++ lost_text ++ decimal end.lost

abbrev pub opening : Clock → End → List ℕ
opening clock end = ending end ++ timescale_text ++ unit_of clock ++ end_text

abbrev pub signals : List (List ℕ) → List WatchedPlace → List ℕ
signals tasks places =
    tasks_scope ++ flat_map task_signal tasks ++ watches_scope ++ flat_map watch_signal places ++ other_signals

-- ---- the values at the first time

abbrev pub value_from : WatchedPlace → Option ℤ → List ℕ
value_from p None = []
value_from p (Some value) = valued p.is_bool p.name value

abbrev pub first_value : WatchedPlace → List ℕ
first_value p = value_from p p.start

abbrev pub first_values : List WatchedPlace → List ℕ
first_values places = flat_map first_value places

-- no program of the task began
abbrev pub idle_task : List ℕ → List ℕ
idle_task task = codes "s- t:" ++ task ++ codes "\n"

-- where values are known, each signal has one at the first time: a string has `-`
abbrev pub beginning : ℕ → List (List ℕ) → List ℕ → List ℕ
beginning from tasks values =
    if is_empty values then [] else stamp None from ++ values_text ++ values ++ flat_map idle_task tasks ++ idle_text

-- the time that is before the changes
abbrev pub begun_at : ℕ → List ℕ → Option ℕ
begun_at from values = if is_empty values then None else Some from

-- ---- the whole text

abbrev pub after_signals : View → List WatchedPlace → Chart → List ℕ
after_signals view places chart =
    beginning view.from chart.tasks (first_values places) ++ changes_from view places (begun_at view.from (first_values places)) chart.entries chart.end

abbrev pub wave_of : View → List WatchedPlace → Chart → List ℕ
wave_of view places chart =
    opening view.clock chart.end ++ signals chart.tasks places ++ after_signals view places chart

abbrev pub vcd_text : Asked → Chart → List ℕ
vcd_text asked chart = wave_of asked.view (places_of asked chart) chart
