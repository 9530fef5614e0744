-- The watched places of a picture: those that are given, and those that a report names besides.
use Rattle.std.specs.Prelude.{ℕ, List, ◌++◌, map, fold, Bool, false, ◌&&◌, nat_le, nat_lt, if◌then◌else◌, ℤ, Option, Some, None}
use Rattle.std.specs.Option.{option_or}
use Rattle.std.specs.List.{list_any, filter_map}
use Rattle.std.specs.Str.{bytes_eq}
use Rattle.lgx_chart.specs.declared.entry.Note.{Note}
use Rattle.lgx_chart.specs.declared.entry.Note.TheVariants.{Begin, Reply, Fault, Set}
use Rattle.lgx_chart.specs.declared.entry.Entry.{Entry}
use Rattle.lgx_chart.specs.declared.entry.Chart.{Chart}
use Rattle.lgx_chart.specs.declared.asked.View.{View}
use Rattle.lgx_chart.specs.declared.asked.WatchedPlace.{WatchedPlace}
use Rattle.lgx_chart.specs.declared.asked.Asked.{Asked}
use Rattle.lgx_chart.specs.Clocks.{time_of}
use Rattle.lgx_chart.specs.Asked.{is_told}

-- ---- times

-- the time of a line is before those that are shown, or it is one of them
abbrev pub is_before : View → Entry → Bool
is_before view e = nat_lt (time_of view.clock e.tick e.step) view.from

abbrev pub is_shown : View → Entry → Bool
is_shown view e =
    nat_le view.from (time_of view.clock e.tick e.step) && nat_le (time_of view.clock e.tick e.step) view.to

-- ---- values

-- the value that a line gives a place
abbrev pub set_to : List ℕ → Note → Option ℤ
set_to name (Begin task program version) = None
set_to name (Reply words) = None
set_to name (Fault words) = None
set_to name (Set watch value) = if bytes_eq watch name then Some value else None

abbrev pub after_line : View → List ℕ → Option ℤ → Entry → Option ℤ
after_line view name value e = if is_before view e then option_or (set_to name e.note) value else value

-- what is there when the first time that is shown begins
abbrev pub value_at_start : View → List Entry → List ℕ → Option ℤ → Option ℤ
value_at_start view es name value = fold (after_line view name) value es

-- ---- places

abbrev pub shown : View → List Entry → WatchedPlace → WatchedPlace
shown view es p = record p { start = value_at_start view es p.name p.start }

-- of a place that isn't given, nothing is known before its first change
abbrev pub unknown : List ℕ → WatchedPlace
unknown name = record { name = name; is_bool = false; start = None }

abbrev pub untold : List WatchedPlace → List ℕ → Option WatchedPlace
untold places name = if is_told places name then None else Some (unknown name)

-- the places that are given, and then those that changed besides
abbrev pub places_of : Asked → Chart → List WatchedPlace
places_of a chart = map (shown a.view chart.entries) (a.places ++ filter_map (untold a.places) chart.watches)

abbrev pub is_bool_at : List ℕ → WatchedPlace → Bool
is_bool_at name p = p.is_bool && bytes_eq p.name name

abbrev pub is_bool : List WatchedPlace → List ℕ → Bool
is_bool places name = list_any (is_bool_at name) places
