-- The lanes of a drawing, and what the lines of a report say in them.
use Rattle.std.specs.Prelude.{ℕ, ◌-◌, List, [], ◌∷◌, ◌++◌, map, take, drop, length, nat_le, if◌then◌else◌, codes, Option, Some, None}
use Rattle.std.specs.Fmt.{decimal, signed_decimal}
use Rattle.std.specs.List.{join_with_byte}
use Rattle.std.specs.Str.{bytes_eq}
use Rattle.lgx_chart.specs.declared.entry.Note.{Note}
use Rattle.lgx_chart.specs.declared.entry.Note.TheVariants.{Begin, Reply, Fault, Set}
use Rattle.lgx_chart.specs.declared.asked.WatchedPlace.{WatchedPlace}
use Rattle.lgx_picture.specs.declared.lanes.Lane.{Lane}
use Rattle.lgx_picture.specs.declared.lanes.Lane.TheVariants.{Task, Faults, Replies, Watch}
use Rattle.lgx_picture.specs.declared.sizes.TheConstants.{MAX_LANES, NAME_LETTERS, CUT_LETTERS}

-- From the top: the tasks, the faults, the replies, the watched places. A report that was read has no more.
abbrev pub lanes_of : List (List ℕ) → List WatchedPlace → List Lane
lanes_of tasks places = take MAX_LANES (map Task tasks ++ (Faults ∷ Replies ∷ []) ++ map Watch places)

abbrev pub name_of : Lane → List ℕ
name_of (Task name) = name
name_of Faults = codes "faults"
name_of Replies = codes "replies"
name_of (Watch place) = place.name

abbrev pub class_of : Lane → List ℕ
class_of (Task name) = codes "task"
class_of Faults = codes "fault"
class_of Replies = codes "reply"
class_of (Watch place) = codes "watch"

-- of a long name the end, since the last parts of a tag's name say most
abbrev pub short : List ℕ → List ℕ
short name =
    if nat_le (length name) NAME_LETTERS then name else codes ".." ++ drop (length name - CUT_LETTERS) name

-- ---- what a line says in a lane, if it says something there

-- a begin of that task: its program and version
abbrev pub begun_in : List ℕ → Note → Option (List ℕ)
begun_in name (Begin task program version) =
    if bytes_eq task name then Some (program ++ codes ":" ++ decimal version) else None
begun_in name (Reply words) = None
begun_in name (Fault words) = None
begun_in name (Set watch value) = None

-- a fault: its severity, type and code, task and program
abbrev pub fault_in : Note → Option (List ℕ)
fault_in (Begin task program version) = None
fault_in (Reply words) = None
fault_in (Fault words) = Some (join_with_byte 32 words)
fault_in (Set watch value) = None

-- a reply: its lane of actions and its answer
abbrev pub reply_in : Note → Option (List ℕ)
reply_in (Begin task program version) = None
reply_in (Reply words) = Some (join_with_byte 32 words)
reply_in (Fault words) = None
reply_in (Set watch value) = None

-- a new value of that watched place
abbrev pub set_in : List ℕ → Note → Option (List ℕ)
set_in name (Begin task program version) = None
set_in name (Reply words) = None
set_in name (Fault words) = None
set_in name (Set watch value) = if bytes_eq watch name then Some (signed_decimal value) else None

abbrev pub said_in : Lane → Note → Option (List ℕ)
said_in (Task name) note = begun_in name note
said_in Faults note = fault_in note
said_in Replies note = reply_in note
said_in (Watch place) note = set_in place.name note
