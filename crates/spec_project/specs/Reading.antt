-- What a project file describes, if its shape is right: its names, texts and numbers as they are there.
use Rattle.std.specs.Prelude.{ℕ, Bool, false, ◌&&◌, List, Option, None, option_map, unwrap_or, if◌then◌else◌, codes}
use Rattle.std.specs.Str.{bytes_eq, is_utf8}
use Rattle.serde_json.specs.Data.{Data}
use Rattle.serde_json.specs.Read.{read}
use Rattle.serde_json.specs.Find.{get}
use Rattle.spec_base.specs.declared.limits.TheConstants.{LEAST_PRIORITY}
use Rattle.spec_language.specs.declared.types.TypeDecl.{TypeDecl}
use Rattle.spec_language.specs.declared.types.MemberDecl.{MemberDecl}
use Rattle.spec_tables.specs.declared.task.TaskKind.{TaskKind}
use Rattle.spec_tables.specs.declared.task.TaskKind.TheVariants.{Continuous, Periodic, Event}
use Rattle.spec_tables.specs.declared.task.TaskDef.{TaskDef}
use Rattle.spec_project.specs.declared.limits.TheConstants.{DEFAULT_WATCHDOG}
use Rattle.spec_project.specs.declared.described.TaskWord.{TaskWord}
use Rattle.spec_project.specs.declared.described.TaskWord.TheVariants as word
use Rattle.spec_project.specs.declared.described.Described.{Described}
use Rattle.spec_project.specs.declared.described.DescribedConnection.{DescribedConnection}
use Rattle.spec_project.specs.declared.described.DescribedMeaning.{DescribedMeaning}
use Rattle.spec_project.specs.declared.described.DescribedMeaning.TheVariants.{OfType, AliasOf}
use Rattle.spec_project.specs.declared.described.DescribedProgram.{DescribedProgram}
use Rattle.spec_project.specs.declared.described.DescribedRoutine.{DescribedRoutine}
use Rattle.spec_project.specs.declared.described.DescribedTag.{DescribedTag}
use Rattle.spec_project.specs.declared.described.DescribedTask.{DescribedTask}
use Rattle.spec_project.specs.declared.described.DescribedValue.{DescribedValue}
use Rattle.spec_project.specs.Values.{text_of, text_at, has_field, number_at, integer_at, truth_at, list_at, if_text_at}
use Rattle.spec_project.specs.Shape.{is_newest, word_at}

-- ---- types and tags

unfoldable pub member_decl : Data → MemberDecl
member_decl d = record { name = text_at (codes "name") d; of = text_at (codes "type") d; dim = number_at (codes "dim") 0 d }

unfoldable pub type_decl : Data → TypeDecl
type_decl d = record { name = text_at (codes "name") d; members = list_at (codes "members") member_decl d }

abbrev pub meaning : Data → DescribedMeaning
meaning d =
    if has_field (codes "alias") d
    then AliasOf (text_at (codes "alias") d)
    else OfType (text_at (codes "type") d) (number_at (codes "dim") 0 d)

unfoldable pub described_tag : Data → DescribedTag
described_tag d = record { name = text_at (codes "name") d; meaning = meaning d }

-- ---- programs

unfoldable pub described_routine : Data → DescribedRoutine
described_routine d = record { name = text_at (codes "name") d; rungs = list_at (codes "rungs") text_of d }

unfoldable pub described_program : Data → DescribedProgram
described_program d = record {
  name = text_at (codes "name") d;
  main = text_at (codes "main") d;
  tags = list_at (codes "tags") described_tag d;
  routines = list_at (codes "routines") described_routine d;
}

-- ---- tasks

abbrev pub kind_of : TaskWord → Data → TaskKind
kind_of word.Continuous d = Continuous
kind_of word.Periodic d = Periodic (number_at (codes "period") 0 d)
kind_of word.Event d = Event

-- the continuous task has the least priority, and no other has it
abbrev pub priority_of : TaskWord → Data → ℕ
priority_of word.Continuous d = LEAST_PRIORITY
priority_of word.Periodic d = number_at (codes "priority") 0 d
priority_of word.Event d = number_at (codes "priority") 0 d

abbrev pub inhibited_of : Bool → Data → Bool
inhibited_of newest d = newest && truth_at (codes "inhibited") d

unfoldable pub task_def : Bool → Data → TaskDef
task_def newest d = record {
  kind = kind_of (word_at d) d;
  priority = priority_of (word_at d) d;
  watchdog = number_at (codes "watchdog") DEFAULT_WATCHDOG d;
  inhibited = inhibited_of newest d;
}

unfoldable pub described_task : Bool → Data → DescribedTask
described_task newest d = record {
  name = text_at (codes "name") d;
  def = task_def newest d;
  programs = list_at (codes "programs") text_of d;
}

-- ---- connections and initial values

abbrev pub is_out : Data → Bool
is_out d = bytes_eq (text_of d) (codes "out")

unfoldable pub described_connection : Data → DescribedConnection
described_connection d = record {
  name = text_at (codes "name") d;
  tag = text_at (codes "tag") d;
  output = unwrap_or (option_map is_out (get (codes "direction") d)) false;
  trigger = if_text_at (codes "trigger") d;
}

unfoldable pub described_value : Data → DescribedValue
described_value d = record { tag = text_at (codes "tag") d; value = integer_at (codes "value") d }

-- ---- the whole

unfoldable pub described : Data → Described
described d = record {
  types = list_at (codes "types") type_decl d;
  tags = list_at (codes "tags") described_tag d;
  programs = list_at (codes "programs") described_program d;
  tasks = list_at (codes "tasks") (described_task (is_newest d)) d;
  connections = list_at (codes "connections") described_connection d;
  initial = list_at (codes "initial") described_value d;
  watch = list_at (codes "watch") text_of d;
}

-- the value that the bytes are, if they are UTF-8: by the reading of the crate `serde_json`
unfoldable pub value_of : List ℕ → Option Data
value_of bytes = if is_utf8 bytes then read bytes else None
