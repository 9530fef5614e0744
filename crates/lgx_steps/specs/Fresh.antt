-- What a project gives to a new controller, and what is made of it.
use Rattle.std.specs.Prelude.{◌≡◌, ◌<◌, ◌≤◌, ℕ, true, false, List, length, map, replicate, None}
use Rattle.std.specs.List.{All, AllByRecursion as Each}
use Rattle.spec_base.specs.declared.limits.TheConstants.{MAX_TASKS, LEAST_PRIORITY, MAX_CONNECTIONS}
use Rattle.spec_tables.specs.declared.conn.ConnDef.{ConnDef}
use Rattle.spec_tables.specs.declared.task.TaskDef.{TaskDef}
use Rattle.spec_tables.specs.Connections.{words_of}
use Rattle.spec_tables.specs.Forces.{no_forces}
use Rattle.spec_machine.specs.Edits.{book_of}
use Rattle.spec_machine.specs.Project.{Project}
use Rattle.spec_machine.specs.ValidProject.{IsValidProject}
use Rattle.lgx_conn.specs.Numbered.{IsSmall}
use Rattle.lgx_sched.specs.Represents.{RepresentsTable as RepresentsTable, HasPeriod, none_up}
use Rattle.lgx_edit.specs.declared.texts.ProgramText.{ProgramText as KeptProgram}
use Rattle.lgx_edit.specs.EditsView.{books, holds}
use Rattle.lgx_edit.specs.Texts.{program_of}
use Rattle.lgx_steps.specs.declared.fresh.OtherParts.{OtherParts}
use Rattle.lgx_steps.specs.declared.fresh.Opened.{Opened}
use Rattle.lgx_steps.specs.declared.fresh.Scans.{Scans}
use Rattle.lgx_steps.specs.declared.fresh.Tables.{Tables}
use Rattle.lgx_steps.specs.PartsView.{IsIdle}

-- few tasks, each with a priority and a period of its kind
pub record AreProper (tasks : List TaskDef) : Type 0 where
  pub few : length tasks ≤ MAX_TASKS
  pub priorities : All (λ d. (0 < d.priority) × (d.priority ≤ LEAST_PRIORITY)) tasks
  pub periods : All (λ d. HasPeriod d.kind) tasks

-- few connections, of few words
pub record AreSmall (conns : List ConnDef) : Type 0 where
  pub few : length conns ≤ MAX_CONNECTIONS
  pub small : All IsSmall conns

-- these programs and what is kept beside them are the parts of a valid project
pub record IsTakenApart (p : Project) (texts : List KeptProgram) (kept : OtherParts) : Type 0 where
  pub valid : IsValidProject p
  pub programs : p.programs ≡ map program_of texts
  pub tags : kept.tags.declarations ≡ p.tags
  pub sealed : kept.tags.sealed ≡ true
  pub tasks : kept.tasks ≡ p.tasks
  pub names : kept.names ≡ p.names
  pub schedule : kept.schedule ≡ p.schedule
  pub conns : kept.conns ≡ p.conns
  pub image : kept.image.bytes ≡ p.image

unfoldable pub IsOpened : Project → Opened → Type 0
IsOpened p o = IsTakenApart p o.texts.items o.kept.value

-- no task is up, and nothing is forced
pub record AreTablesOf (tasks : List TaskDef) (conns : List ConnDef) (made : Tables) : Type 0 where
  pub table : RepresentsTable made.table (none_up tasks 0)
  pub conns_are : made.conns ≡ conns
  pub forces : made.forces ≡ no_forces (words_of conns)

-- each program has its book and is held by none, each task is idle, and no scan is a first one
pub record AreScansOf (texts : List KeptProgram) (tasks : ℕ) (made : Scans) : Type 0 where
  pub book : books made.book ≡ map (λ q. book_of (program_of q)) texts
  pub held : holds made.book ≡ map (λ q. None) texts
  pub many : length made.progress.items ≡ tasks
  pub idle : Each IsIdle made.progress.items
  pub firsts : made.firsts.items ≡ replicate (length texts) false
