-- What holds of every project that a project file gives. What is said of runs is said of these.
use Rattle.std.specs.Prelude.{◌≡◌, ℕ, ◌+◌, ◌*◌, ◌%◌, Bool, true, false, not, ◌&&◌, ◌==◌, nat_lt, nat_le, List, [], ◌∷◌, length, map, flat_map, count_by, sum_by, slice_index_or, Some, None, Ok, IsTrue}
use Rattle.std.specs.Bool.{beq as agree}
use Rattle.std.specs.List.{AllByRecursion as Each, enumerate_from, list_any, list_all, range_with_len, zip}
use Rattle.spec_base.specs.declared.limits.TheConstants.{LEAST_PRIORITY, MAX_CONNECTIONS, MAX_CONNECTION_WORDS, MAX_ELEMENTS, MAX_IMAGE_BYTES, MAX_STRUCTURE_BYTES, MAX_TASKS}
use Rattle.lgx_num.specs.Name.{same}
use Rattle.lgx_num.specs.Image.{InBounds, bits_of}
use Rattle.lgx_num.specs.declared.place.Operand.{Operand}
use Rattle.lgx_num.specs.declared.place.Operand.TheVariants as operand
use Rattle.lgx_rung.specs.Tree.{instructions}
use Rattle.spec_language.specs.declared.names.TaskName.{TaskName}
use Rattle.spec_language.specs.declared.types.TypeDecl.{TypeDecl}
use Rattle.spec_language.specs.declared.tag.Scope.{Scope}
use Rattle.spec_language.specs.declared.tag.Scope.TheVariants.{Controller, Program}
use Rattle.spec_language.specs.Layout.{sizes}
use Rattle.spec_language.specs.Declarations.{Meaning, Entry, tag, alias, Declarations, same_scope, in_scope, entry_size, laid, bytes}
use Rattle.spec_language.specs.Resolution.{seal_fault}
use Rattle.spec_language.specs.ResolutionLaws.{Sound}
use Rattle.spec_language.specs.Checked.{checked}
use Rattle.spec_tables.specs.declared.conn.ConnDef.{ConnDef}
use Rattle.spec_tables.specs.declared.task.TaskKind.{TaskKind}
use Rattle.spec_tables.specs.declared.task.TaskKind.TheVariants.{Continuous, Periodic, Event}
use Rattle.spec_tables.specs.declared.task.TaskDef.{TaskDef}
use Rattle.spec_tables.specs.Tasks.{is_continuous, no_task}
use Rattle.spec_scan.specs.Position.{Rungs}
use Rattle.spec_scan.specs.Executable.{AreExecutable}
use Rattle.spec_machine.specs.declared.limits.TheConstants.{MAX_MEMBERS, MAX_PERIOD, MAX_PROGRAMS, MAX_PROJECT_INSTRUCTIONS, MAX_ROUTINES, MAX_RUNGS, MAX_SCOPE_TAGS, MAX_TYPES, MAX_WATCHES}
use Rattle.spec_machine.specs.Project.{Project, ProgramText, Watch}
use Rattle.spec_machine.specs.Edits.{book_of, instruction_count, scope_of}

-- ---- tags

-- types and tags are sound, every alias names something, and the image is as long as the tags take
pub record HasSealedTags (p : Project) : Type 0 where
  pub sound : Sound p.tags
  pub sealed : seal_fault p.tags ≡ None
  pub image : length p.image ≡ bytes p.tags

-- ---- rungs

-- the rungs of each routine of program n, as they run, are those that its source gives
abbrev pub IsChecked : Project → ℕ × ProgramText → Type 0
IsChecked p (n, program) =
    Each (λ r. checked (scope_of p.tags p.names n (book_of program)) r.source ≡ Ok r.checked) program.routines

abbrev pub IsExecutableOver : ℕ → ProgramText → Type 0
IsExecutableOver len program = Each (λ r. AreExecutable len r.checked) program.routines

-- an operand that names a routine or a task names one of `routines` routines or of `tasks` tasks
abbrev pub is_known : ℕ → ℕ → Operand → Bool
is_known routines tasks (operand.Routine r) = nat_lt r routines
is_known routines tasks (operand.Task t) = nat_lt t tasks
is_known routines tasks _ = true

abbrev pub knows_targets : ℕ → ℕ → Rungs → Bool
knows_targets routines tasks rungs =
    list_all (λ i. list_all (is_known routines tasks) i.args) (flat_map instructions rungs)

-- the main routine is one of the program's, and so is what JSR names; what EVENT names is a task
abbrev pub has_targets : Project → ProgramText → Bool
has_targets p program =
    nat_lt program.main many && list_all (λ r. knows_targets many (length p.tasks) r.checked) program.routines
  where
    many : ℕ
    many = length program.routines

-- ---- connections and watched places

abbrev pub is_tag_of : List TypeDecl → ConnDef → ℕ × Entry → Bool
is_tag_of types c (at, e) = same_scope e.scope Controller && at == c.byte && entry_size types e == 4 * c.words

-- its words are all the bytes of one controller tag
abbrev pub is_of_one_tag : Declarations → ConnDef → Bool
is_of_one_tag d c = nat_lt 0 c.words && list_any (is_tag_of d.types c) (laid d)

abbrev pub is_event : TaskKind → Bool
is_event Event = true
is_event _ = false

abbrev pub is_event_task : List TaskDef → ℕ → Bool
is_event_task tasks t = nat_lt t (length tasks) && is_event (slice_index_or tasks t no_task).kind

-- an input's trigger is an event task, and an output has none
abbrev pub has_known_trigger : List TaskDef → ConnDef → Bool
has_known_trigger tasks c = elim c.trigger [ None ↦ true | Some t ↦ not c.output && is_event_task tasks t ]

-- it lies in the image, and begins at a multiple of its size; a bit may begin anywhere
pub record IsWatchable (len : ℕ) (w : Watch) : Type 0 where
  pub inside : InBounds w.place len
  pub aligned : w.place.at % bits_of w.place.kind ≡ 0

-- ---- tasks and their programs

-- a task's name knows whether it is an event task
abbrev pub is_name_of : TaskName × TaskDef → Bool
is_name_of (name, task) = agree name.event (is_event task.kind)

pub record HasTaskLists (p : Project) : Type 0 where
  pub names : length p.names ≡ length p.tasks
  pub lists : length p.schedule ≡ length p.tasks
  pub events : IsTrue (list_all is_name_of (zip p.names p.tasks))

-- no two of these names are the same when case is ignored
abbrev pub all_differ : List (List ℕ) → Bool
all_differ [] = true
all_differ (name ∷ names) = not (list_any (same name) names) && all_differ names

pub record HasDifferentNames (p : Project) : Type 0 where
  pub programs : IsTrue (all_differ (map (λ q. q.name) p.programs))
  pub routines : IsTrue (list_all (λ q. all_differ (map (λ r. r.name) q.routines)) p.programs)
  pub tasks : IsTrue (all_differ (map (λ t. t.name) p.names))
  pub connections : IsTrue (all_differ (map (λ c. c.name) p.conns))

-- a task's list has a program at least, and programs alone
abbrev pub is_list_of : ℕ → List ℕ → Bool
is_list_of programs list = nat_lt 0 (length list) && list_all (λ n. nat_lt n programs) list

-- a program is in one list, once
abbrev pub is_listed_once : List (List ℕ) → ℕ → Bool
is_listed_once schedule n = count_by (λ m. m == n) (flat_map (λ list. list) schedule) == 1

abbrev pub is_within : ℕ → ℕ → Bool
is_within n limit = nat_lt 0 n && nat_le n limit

-- what the kind of a task asks of its priority and of its period
abbrev pub has_priority : TaskKind → ℕ → Bool
has_priority Continuous priority = priority == LEAST_PRIORITY
has_priority _ priority = nat_lt 0 priority && nat_lt priority LEAST_PRIORITY

abbrev pub has_period : TaskKind → Bool
has_period (Periodic n) = is_within n MAX_PERIOD
has_period _ = true

abbrev pub is_proper_task : TaskDef → Bool
is_proper_task t = has_priority t.kind t.priority && has_period t.kind && is_within t.watchdog MAX_PERIOD

abbrev pub at_most_one_continuous : List TaskDef → Bool
at_most_one_continuous tasks = nat_le (count_by (λ t. is_continuous t.kind) tasks) 1

-- ---- limits

abbrev pub is_small_program : ProgramText → Bool
is_small_program q =
    is_within (length q.routines) MAX_ROUTINES && list_all (λ r. nat_le (length r.source) MAX_RUNGS) q.routines

abbrev pub is_small_connection : ConnDef → Bool
is_small_connection c = is_within c.words MAX_CONNECTION_WORDS && nat_le (c.byte + 4 * c.words) MAX_IMAGE_BYTES

abbrev pub has_few_in : Declarations → Scope → Bool
has_few_in d scope = nat_le (length (in_scope d.entries scope)) MAX_SCOPE_TAGS

-- the entries of the controller, and those of each program
abbrev pub has_few_entries : Declarations → Bool
has_few_entries d = has_few_in d Controller && list_all (λ n. has_few_in d (Program n)) (range_with_len 0 d.programs)

-- an array has no more elements than there may be
abbrev pub has_small_array : Meaning → Bool
has_small_array (tag of) = nat_le of.dim MAX_ELEMENTS
has_small_array (alias target) = true

abbrev pub has_small_members : TypeDecl → Bool
has_small_members t = is_within (length t.members) MAX_MEMBERS && list_all (λ m. nat_le m.dim MAX_ELEMENTS) t.members

abbrev pub is_small_structure : ℕ → Bool
is_small_structure size = nat_le size MAX_STRUCTURE_BYTES

abbrev pub has_small_types : List TypeDecl → Bool
has_small_types types =
    nat_le (length types) MAX_TYPES && list_all has_small_members types && list_all is_small_structure (sizes types)

pub record IsWithinLimits (p : Project) : Type 0 where
  pub tasks : IsTrue (is_within (length p.tasks) MAX_TASKS)
  pub programs : IsTrue (is_within (length p.programs) MAX_PROGRAMS)
  pub each_program : IsTrue (list_all is_small_program p.programs)
  pub instructions : IsTrue (nat_le (sum_by (λ q. instruction_count q.routines) p.programs) MAX_PROJECT_INSTRUCTIONS)
  pub entries : IsTrue (has_few_entries p.tags)
  pub arrays : IsTrue (list_all (λ e. has_small_array e.meaning) p.tags.entries)
  pub types : IsTrue (has_small_types p.tags.types)
  pub image : IsTrue (nat_le (bytes p.tags) MAX_IMAGE_BYTES)
  pub connections : IsTrue (nat_le (length p.conns) MAX_CONNECTIONS)
  pub words : IsTrue (list_all is_small_connection p.conns)
  pub watches : IsTrue (nat_le (length p.watches) MAX_WATCHES)

-- ---- a valid project

pub record IsValidProject (p : Project) : Type 0 where
  -- the tags are sealed, and the image is theirs
  pub tags : HasSealedTags p
  -- the tags are declared for these programs
  pub scopes : p.tags.programs ≡ length p.programs
  -- each routine's rungs, as they run, are those that its source gives
  pub rungs : Each (IsChecked p) (enumerate_from 0 p.programs)
  -- operands lie in the image for all subscripts in range, and are such as their instructions want them
  pub operands : Each (IsExecutableOver (length p.image)) p.programs
  -- the main routine, and what JSR and EVENT name, are there
  pub targets : IsTrue (list_all (has_targets p) p.programs)
  -- each connection's words are all the bytes of one controller tag
  pub connections : IsTrue (list_all (is_of_one_tag p.tags) p.conns)
  -- each trigger is an event task
  pub triggers : IsTrue (list_all (has_known_trigger p.tasks) p.conns)
  -- each watched place can be read, and begins at a multiple of its size
  pub watches : Each (IsWatchable (length p.image)) p.watches
  -- tasks, their names and their lists of programs are equally many, and a name knows whether its task is an event task
  pub task_lists : HasTaskLists p
  -- programs, the routines of one, tasks and connections have names that differ when case is ignored
  pub names : HasDifferentNames p
  -- each task's list has at least one program, and programs alone
  pub lists : IsTrue (list_all (is_list_of (length p.programs)) p.schedule)
  -- every program is in one task's list, once
  pub once : IsTrue (list_all (is_listed_once p.schedule) (range_with_len 0 (length p.programs)))
  -- each task has a priority, a period and a watchdog of its kind, and at most one is continuous
  pub tasks : IsTrue (list_all is_proper_task p.tasks)
  pub continuous : IsTrue (at_most_one_continuous p.tasks)
  -- every limit holds
  pub limits : IsWithinLimits p
