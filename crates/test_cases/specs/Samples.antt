-- Words for sample projects: what a project file says, as definitions.
use Rattle.std.specs.Prelude.{ℕ, ◌+◌, ◌-◌, ◌/◌, Bool, true, false, List, [], ◌∷◌, ◌++◌, map, ℤ, Option, Some, None, Result, Ok, Err, codes, fold, flat_map, length, replicate}
use Rattle.std.specs.List.{enumerate_from, range_with_len}
use Rattle.std.specs.Result.{result_unwrap_or}
use Rattle.spec_base.specs.declared.limits.TheConstants.{LEAST_PRIORITY}
use Rattle.lgx_num.specs.declared.place.Place.{Place}
use Rattle.lgx_num.specs.Image.{write}
use Rattle.lgx_rung.specs.Tree.{Source, end}
use Rattle.lgx_rung.specs.Tokens.{read_rung}
use Rattle.spec_language.specs.declared.types.Base.{Base}
use Rattle.spec_language.specs.declared.types.Base.TheVariants.{Bool as OneBit, Sint, Dint, Timer, Counter}
use Rattle.spec_language.specs.declared.tag.Scope.TheVariants.{Controller}
use Rattle.spec_language.specs.declared.tag.Found.{Found}
use Rattle.spec_language.specs.declared.tag.TagCode.{TagCode}
use Rattle.spec_tables.specs.declared.task.TaskKind.{TaskKind}
use Rattle.spec_tables.specs.declared.task.TaskKind.TheVariants.{Continuous, Event as EventTask}
use Rattle.spec_tables.specs.declared.task.TaskDef.{TaskDef}
use Rattle.spec_language.specs.declared.names.TaskName.{TaskName}
use Rattle.spec_tables.specs.declared.conn.ConnDef.{ConnDef}
use Rattle.spec_machine.specs.declared.event.Event.{Event}
use Rattle.spec_text.specs.declared.script.JournalFault.{JournalFault}
use Rattle.spec_language.specs.Declarations.{Declarations, Entry, tag, bytes}
use Rattle.spec_language.specs.Resolution.{found_fixed, kind_of}
use Rattle.spec_language.specs.Checked.{CheckScope, checked}
use Rattle.spec_text.specs.JournalText.{journal_of}
use Rattle.spec_machine.specs.Project.{Project, ProgramText, RoutineText, Watch}
use Rattle.spec_text.specs.ReportText.{report}

-- ---- tags

abbrev pub array : List ℕ → Base → ℕ → Entry
array name base dim = record { scope = Controller; name = name; meaning = tag (record { base = base; dim = dim }) }

abbrev pub bool : List ℕ → Entry
bool name = array name OneBit 0

abbrev pub sint : List ℕ → Entry
sint name = array name Sint 0

abbrev pub dint : List ℕ → Entry
dint name = array name Dint 0

abbrev pub timer : List ℕ → Entry
timer name = array name Timer 0

abbrev pub counter : List ℕ → Entry
counter name = array name Counter 0

abbrev pub found_or_zero : Result Found TagCode → Found
found_or_zero r = result_unwrap_or r (record { at = 0; steps = []; of = record { base = Dint; dim = 0 }; stop = 0 })

-- the place that a text names
abbrev pub place_named : Declarations → List ℕ → Place
place_named d text = let f = found_or_zero (found_fixed d Controller text) in record { kind = kind_of f.of.base; at = f.at }

-- ---- programs and tasks

-- a routine by the texts of its rungs
pub record RoutineLines : Type 0 where
  pub name : List ℕ
  pub texts : List (List ℕ)

-- a program whose first routine is the main one
pub record ProgramLines : Type 0 where
  pub name : List ℕ
  pub routines : List RoutineLines

-- a task with its programs
pub record TaskLines : Type 0 where
  pub name : List ℕ
  pub kind : TaskKind
  pub priority : ℕ
  pub watchdog : ℕ
  pub inhibited : Bool
  pub programs : List ProgramLines

abbrev pub routine : List ℕ → List (List ℕ) → RoutineLines
routine name texts = record { name = name; texts = texts }

abbrev pub routines : List ℕ → List RoutineLines → ProgramLines
routines name rs = record { name = name; routines = rs }

-- a program with one routine M
abbrev pub program : List ℕ → List (List ℕ) → ProgramLines
program name texts = routines name (routine (codes "M") texts ∷ [])

abbrev pub task : List ℕ → TaskKind → ℕ → List ProgramLines → TaskLines
task name kind priority programs = record { name = name; kind = kind; priority = priority; watchdog = 500; inhibited = false; programs = programs }

abbrev pub with_watchdog : ℕ → TaskLines → TaskLines
with_watchdog ticks t = record t { watchdog = ticks }

abbrev pub inhibited : TaskLines → TaskLines
inhibited t = record t { inhibited = true }

-- the continuous task T with the program P
abbrev pub continuous : List (List ℕ) → TaskLines
continuous texts = task (codes "T") Continuous LEAST_PRIORITY (program (codes "P") texts ∷ [])

abbrev pub is_event : TaskKind → Bool
is_event EventTask = true
is_event _ = false

abbrev pub task_name : TaskLines → TaskName
task_name t = record { name = t.name; event = is_event t.kind }

abbrev pub task_def : TaskLines → TaskDef
task_def t = record { kind = t.kind; priority = t.priority; watchdog = t.watchdog; inhibited = t.inhibited }

-- the programs of all tasks, and for each task the numbers of its own, from number n on
abbrev pub programs_of : List TaskLines → List ProgramLines
programs_of tasks = flat_map (λ t. t.programs) tasks

abbrev pub schedule_from : ℕ → List TaskLines → List (List ℕ)
schedule_from n [] = []
schedule_from n (t ∷ ts) = range_with_len n (length t.programs) ∷ schedule_from (n + length t.programs) ts

abbrev pub read_text : List ℕ → Source
read_text text = result_unwrap_or (read_rung text) end

abbrev pub routine_text : CheckScope → RoutineLines → RoutineText
routine_text scope r =
    let source = map read_text r.texts in record { name = r.name; source = source; checked = result_unwrap_or (checked scope source) [] }

abbrev pub program_text : Declarations → List TaskName → ℕ × ProgramLines → ProgramText
program_text d tasks (n, p) =
    let scope : CheckScope = record { tags = d; program = n; routines = map (λ r. r.name) p.routines; tasks = tasks } in
    record { name = p.name; routines = map (routine_text scope) p.routines; main = 0 }

-- ---- connections, initial values and watched places

-- a connection on a controller tag
pub record Connection : Type 0 where
  pub name : List ℕ
  pub tag : List ℕ
  pub output : Bool
  pub trigger : Option ℕ

abbrev pub connection : Declarations → Connection → ConnDef
connection d c =
    let f = found_or_zero (found_fixed d Controller c.tag) in
    record { name = c.name; output = c.output; byte = f.at / 8; words = (f.stop - f.at / 8) / 4; trigger = c.trigger }

-- an initial value
pub record Initial : Type 0 where
  pub tag : List ℕ
  pub value : ℤ

abbrev pub with_initial : Declarations → List ℕ → Initial → List ℕ
with_initial d image i = write image (place_named d i.tag) i.value

abbrev pub watch : Declarations → List ℕ → Watch
watch d text = record { text = text; place = place_named d text }

-- ---- projects

abbrev pub project_of : Declarations → List TaskLines → List Connection → List Initial → List (List ℕ) → Project
project_of d tasks conns initials watches =
    let names = map task_name tasks in
    record { tags = d; programs = map (program_text d names) (enumerate_from 0 (programs_of tasks)); tasks = map task_def tasks; names = names; schedule = schedule_from 0 tasks; conns = map (connection d) conns; image = fold (with_initial d) (replicate (bytes d) 0) initials; watches = map (watch d) watches }

-- controller tags without structures
abbrev pub tags_of : List TaskLines → List Entry → Declarations
tags_of tasks entries = record { types = []; programs = length (programs_of tasks); entries = entries }

-- a project without connections
abbrev pub plain : List Entry → List TaskLines → List Initial → List (List ℕ) → Project
plain entries tasks initials watches = project_of (tags_of tasks entries) tasks [] initials watches

abbrev pub is_initially : List ℕ → ℤ → Initial
is_initially text value = record { tag = text; value = value }

-- one with connections
abbrev pub with_words : List Entry → List TaskLines → List Connection → List Initial → List (List ℕ) → Project
with_words entries tasks conns initials watches = project_of (tags_of tasks entries) tasks conns initials watches

abbrev pub input : List ℕ → List ℕ → Connection
input name text = record { name = name; tag = text; output = false; trigger = None }

abbrev pub with_trigger : ℕ → Connection → Connection
with_trigger number c = record c { trigger = Some number }

abbrev pub output : List ℕ → List ℕ → Connection
output name text = record { name = name; tag = text; output = true; trigger = None }

-- ---- replays

-- lines of text, each with its line end
abbrev pub lines : List (List ℕ) → List ℕ
lines ls = flat_map (λ l. l ++ 10 ∷ []) ls

-- The report of a journal's text. A text that is no journal has none.
abbrev pub replayed : Project → Result (List Event) JournalFault → List ℕ
replayed project (Ok journal) = report project journal
replayed project (Err f) = []

abbrev pub replay : Project → List ℕ → List ℕ
replay project text = replayed project (journal_of text)
