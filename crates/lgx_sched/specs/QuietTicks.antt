-- Ticks at which the table has nothing to do.
use Rattle.std.specs.Prelude.{◌≡◌, ℕ, ◌-◌, ◌<◌, Bool, true, false, ◌&&◌, nat_lt, nat_le, length, if◌then◌else◌, Option, Some, None}
use Rattle.spec_tables.specs.declared.task.TaskDef.{TaskDef}
use Rattle.spec_tables.specs.declared.task.TaskKind.{TaskKind}
use Rattle.spec_tables.specs.Tasks.{Table, divides_by_period, expired, due, rotate}
use Rattle.lgx_sched.specs.declared.active.ActiveTask.{ActiveTask}
use Rattle.lgx_sched.specs.TableView.{TableView, up_of, def_of, front_of, has_run_out, is_alone}
use Rattle.lgx_sched.specs.Represents.{RepresentsTable, IsTable}

-- a task of this kind is due at this tick
abbrev pub is_due : ℕ → ℕ → TaskKind → Bool
is_due now run_since kind = nat_lt run_since now && divides_by_period (now - run_since) kind

-- at this tick a task hasn't run out, and isn't due
pub record IsIdle (now run_since : ℕ) (d : TaskDef) (u : Option ActiveTask) : Type 0 where
  pub in_time : has_run_out now d u ≡ false
  pub not_due : is_due now run_since d.kind ≡ false

-- whoever is at the front is alone there
abbrev pub alone_if : TableView → Option ℕ → Bool
alone_if v None = true
alone_if v (Some t) = is_alone v t

-- no tick passes a turn on: none has another one behind it in the first queue that has a task
abbrev pub keeps_turn : TableView → Bool
keeps_turn v = alone_if v (front_of v.queues)

-- between these two ticks, both left out, each task is idle, and no turn passes
pub record IsQuiet (v : TableView) (after until : ℕ) : Type 0 where
  pub idle : (n t : ℕ) → after < n → n < until → t < length v.defs → IsIdle n v.run_since (def_of v t) (up_of v t)
  pub turn : (n : ℕ) → after < n → n < until → keeps_turn v ≡ true

-- a table, and between which ticks it is quiet
pub record IsQuietTable (v : TableView) (after until : ℕ) : Type 0 where
  pub table : IsTable v
  pub quiet : IsQuiet v after until

-- Until when it is quiet if one task has this state in place of the old one: an earlier start may run out earlier.
abbrev pub kept_until : ℕ → Option ActiveTask → ActiveTask → ℕ
kept_until until None u = 0
kept_until until (Some o) u = if nat_le o.start u.start then until else 0

-- a tick finds nothing to do: none has run out, none is due, and the turns stay as they are
pub record IsQuietAt (now : ℕ) (v : TableView) (s : Table) : Type 0 where
  pub expired : expired now s ≡ None
  pub due : (t : ℕ) → due t now s ≡ false
  pub rotate : RepresentsTable v (rotate s)
