-- The objects of a project file: the table of their fields, in order.
use Rattle.std.specs.Prelude.{ℕ, Bool, ◌==◌, List, [], ◌∷◌, ◌++◌, option_map, unwrap_or, if◌then◌else◌, codes}
use Rattle.std.specs.Str.{bytes_eq}
use Rattle.serde_json.specs.Data.{Data}
use Rattle.serde_json.specs.Find.{get}
use Rattle.spec_base.specs.declared.limits.TheConstants.{MAX_CONNECTIONS, MAX_ELEMENTS, MAX_TASKS}
use Rattle.spec_machine.specs.declared.limits.TheConstants.{MAX_MEMBERS, MAX_PERIOD, MAX_PROGRAMS, MAX_ROUTINES, MAX_RUNGS, MAX_SCOPE_TAGS, MAX_TYPES, MAX_WATCHES}
use Rattle.spec_project.specs.declared.limits.TheConstants.{MAX_INITIAL_VALUES, MAX_PRIORITY, NEWEST_SCHEMA}
use Rattle.spec_project.specs.declared.described.TaskWord.{TaskWord}
use Rattle.spec_project.specs.declared.described.TaskWord.TheVariants.{Continuous, Periodic, Event}
use Rattle.spec_project.specs.Faults.{or_else}
use Rattle.spec_project.specs.Values.{text_of, has_field, number_at}
use Rattle.spec_project.specs.Judges.{Judge, Field, needed, optional, any_text, name, one_of, rung, whole, dint, truth, list, any_object, field, object}

abbrev pub is_newest : Data → Bool
is_newest d = number_at (codes "schema") 0 d == NEWEST_SCHEMA

-- ---- types

abbrev pub member_fields : List Field
member_fields = needed (codes "name") name ∷ needed (codes "type") name ∷ optional (codes "dim") (whole 1 MAX_ELEMENTS) ∷ []

unfoldable pub member : Judge
member d = object member_fields d

abbrev pub members : Judge
members d = list 1 MAX_MEMBERS member d

abbrev pub type_fields : List Field
type_fields = needed (codes "name") name ∷ needed (codes "members") members ∷ []

unfoldable pub structure : Judge
structure d = object type_fields d

-- ---- tags

abbrev pub alias_fields : List Field
alias_fields = needed (codes "name") any_text ∷ needed (codes "alias") any_text ∷ []

abbrev pub tag_fields : List Field
tag_fields = needed (codes "name") any_text ∷ needed (codes "type") name ∷ optional (codes "dim") (whole 1 MAX_ELEMENTS) ∷ []

-- an object that has an alias is one
unfoldable pub tag : Judge
tag d = object (if has_field (codes "alias") d then alias_fields else tag_fields) d

abbrev pub tags : Judge
tags d = list 0 MAX_SCOPE_TAGS tag d

-- ---- programs

abbrev pub rungs : Judge
rungs d = list 0 MAX_RUNGS rung d

abbrev pub routine_fields : List Field
routine_fields = needed (codes "name") name ∷ needed (codes "rungs") rungs ∷ []

unfoldable pub routine : Judge
routine d = object routine_fields d

abbrev pub routines : Judge
routines d = list 1 MAX_ROUTINES routine d

abbrev pub program_fields : List Field
program_fields = needed (codes "name") name ∷ needed (codes "main") name ∷ optional (codes "tags") tags ∷ needed (codes "routines") routines ∷ []

unfoldable pub program : Judge
program d = object program_fields d

-- ---- tasks

abbrev pub words : List (List ℕ)
words = codes "continuous" ∷ codes "periodic" ∷ codes "event" ∷ []

abbrev pub kind_field : Field
kind_field = needed (codes "kind") (one_of words)

abbrev pub word_of : Data → TaskWord
word_of d =
    if bytes_eq (text_of d) (codes "continuous") then Continuous
    else if bytes_eq (text_of d) (codes "periodic") then Periodic
    else Event

abbrev pub word_at : Data → TaskWord
word_at d = unwrap_or (option_map word_of (get (codes "kind") d)) Event

-- the continuous task has no priority
abbrev pub priority_fields : TaskWord → List Field
priority_fields Continuous = []
priority_fields Periodic = needed (codes "priority") (whole 1 MAX_PRIORITY) ∷ []
priority_fields Event = needed (codes "priority") (whole 1 MAX_PRIORITY) ∷ []

-- a periodic task alone has a period
abbrev pub period_fields : TaskWord → List Field
period_fields Continuous = []
period_fields Periodic = needed (codes "period") (whole 1 MAX_PERIOD) ∷ []
period_fields Event = []

-- the first form of the file has no inhibited tasks
unfoldable pub inhibited_field : Field
inhibited_field = optional (codes "inhibited") truth

abbrev pub inhibited_fields : Bool → List Field
inhibited_fields newest = if newest then inhibited_field ∷ [] else []

abbrev pub program_names : Judge
program_names d = list 1 MAX_PROGRAMS name d

abbrev pub task_fields : Bool → TaskWord → List Field
task_fields newest word =
    (needed (codes "name") name ∷ kind_field ∷ [])
    ++ (priority_fields word
    ++ (period_fields word
    ++ ((optional (codes "watchdog") (whole 1 MAX_PERIOD) ∷ [])
    ++ (inhibited_fields newest
    ++ (needed (codes "programs") program_names ∷ [])))))

-- its kind is judged before its other fields
unfoldable pub task : Bool → Judge
task newest d = or_else (any_object d) (or_else (field kind_field d) (object (task_fields newest (word_at d)) d))

-- ---- connections, initial values and watched places

abbrev pub directions : List (List ℕ)
directions = codes "in" ∷ codes "out" ∷ []

unfoldable pub direction_field : Field
direction_field = needed (codes "direction") (one_of directions)

abbrev pub connection_fields : List Field
connection_fields =
    needed (codes "name") name ∷ needed (codes "tag") any_text ∷ direction_field ∷ optional (codes "trigger") name ∷ []

unfoldable pub connection : Judge
connection d = object connection_fields d

abbrev pub value_fields : List Field
value_fields = needed (codes "tag") any_text ∷ needed (codes "value") dint ∷ []

unfoldable pub value : Judge
value d = object value_fields d

-- ---- the top

abbrev pub types : Judge
types d = list 0 MAX_TYPES structure d

abbrev pub programs : Judge
programs d = list 1 MAX_PROGRAMS program d

abbrev pub tasks : Bool → Judge
tasks newest d = list 1 MAX_TASKS (task newest) d

abbrev pub connections : Judge
connections d = list 0 MAX_CONNECTIONS connection d

abbrev pub values : Judge
values d = list 0 MAX_INITIAL_VALUES value d

abbrev pub watches : Judge
watches d = list 0 MAX_WATCHES any_text d

unfoldable pub controller_field : Field
controller_field = needed (codes "controller") name

unfoldable pub connections_field : Field
connections_field = optional (codes "connections") connections

-- the fields after the programs
unfoldable pub later_fields : Bool → List Field
later_fields newest =
    needed (codes "tasks") (tasks newest) ∷ connections_field ∷ optional (codes "initial") values ∷ optional (codes "watch") watches ∷ []

abbrev pub top_fields : Bool → List Field
top_fields newest =
    needed (codes "schema") (whole 1 NEWEST_SCHEMA) ∷ controller_field ∷ optional (codes "types") types
    ∷ optional (codes "tags") tags ∷ needed (codes "programs") programs ∷ later_fields newest

-- the first refusal of a file's shape
unfoldable pub shape : Judge
shape d = object (top_fields (is_newest d)) d
