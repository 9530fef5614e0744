-- Which events a trace of a project with this table may have.
use Rattle.std.specs.Prelude.{ℕ, ◌^◌, ◌<◌, List, length, slice_index_or, Bool, true, ◌&&◌, nat_lt, nat_le, Option, Some, None, IsTrue}
use Rattle.spec_base.specs.declared.limits.TheConstants.{OWN_LANE}
use Rattle.spec_schedule.specs.declared.trace.TraceMark.{TraceMark}
use Rattle.spec_schedule.specs.declared.trace.TraceMark.TheVariants.{Trigger}
use Rattle.spec_schedule.specs.declared.trace.TraceEvent.{TraceEvent}
use Rattle.spec_schedule.specs.declared.trace.TraceEvent.TheVariants.{Idle, Began, Step, Left, Tick, Act}
use Rattle.spec_schedule.specs.declared.trace.Table.{Table}

-- a task of the table
abbrev pub is_tasks : Table → ℕ → Bool
is_tasks table t = nat_lt t (length table.tasks)

-- a program of the project
abbrev pub is_programs : Table → ℕ → Bool
is_programs table g = nat_lt g table.programs

-- one of them, or none
abbrev pub if_named : (ℕ → Bool) → Option ℕ → Bool
if_named test None = true
if_named test (Some n) = test n

-- each bit of the mask is a task's
abbrev pub is_mask : Table → ℕ → Bool
is_mask table mask = nat_lt mask (2 ^ length table.tasks)

-- the task that a mark triggers
abbrev pub triggered : TraceMark → Option ℕ
triggered (Trigger t) = Some t
triggered _ = None

-- tasks, programs and the bits of masks are the table's, and a lane is at most the journal's own
abbrev pub is_in_table : Table → TraceEvent → Bool
is_in_table table Idle = true
is_in_table table (Began t g v) = is_tasks table t && is_programs table g
is_in_table table (Step t g mark fault) = is_tasks table t && (is_programs table g && if_named (is_tasks table) (triggered mark))
is_in_table table (Left t g ended) = is_tasks table t && is_programs table g
is_in_table table (Tick r o watchdog) = is_mask table r && (is_mask table o && if_named (is_tasks table) watchdog)
is_in_table table (Act lane verb g answer r) = nat_le lane OWN_LANE && (if_named (is_programs table) g && is_mask table r)

-- the same of each event of a trace
abbrev pub AreInTable : Table → List TraceEvent → Type 0
AreInTable table trace = (k : ℕ) → k < length trace → IsTrue (is_in_table table (slice_index_or trace k Idle))
