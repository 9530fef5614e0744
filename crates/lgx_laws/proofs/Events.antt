-- What an event names is in the table.
use Rattle.std.proofs.Common.{◌≡◌, ℕ, ◌<◌, List, length, true, ◌&&◌, Some, None, IsTrue}
use Rattle.std.specs.Prelude.{slice_index_or}
use Rattle.std.proofs.lemmas.Bool.{and_parts, ltb-true}
use Rattle.spec_schedule.specs.declared.trace.TraceMark.{TraceMark}
use Rattle.spec_schedule.specs.declared.trace.TraceMark.TheVariants as mark
use Rattle.spec_schedule.specs.declared.trace.TraceEvent.{TraceEvent}
use Rattle.spec_schedule.specs.declared.trace.TraceEvent.TheVariants.{Idle, Began, Step, Left, Tick, Act}
use Rattle.spec_schedule.specs.declared.trace.Table.{Table}
use Rattle.lgx_audit.specs.TraceTable.{is_tasks, is_programs, is_mask, if_named, triggered, is_in_table, AreInTable}
use Rattle.lgx_laws.specs.Kept.{IsToldWithin, IsTriggeredWithin}

told_within : (table : Table) (e : TraceEvent) → IsTrue (is_in_table table e) → IsToldWithin (length table.tasks) e
told_within table Idle h = tt
told_within table (Began t g v) h = tt
told_within table (Step t g m f) h = tt
told_within table (Left t g b) h = tt
told_within table (Tick r o None) h = tt
told_within table (Tick r o (Some t)) h =
    ltb-true t (length table.tasks) (and_parts (is_mask table o) (is_tasks table t) (and_parts (is_mask table r) (is_mask table o && is_tasks table t) h).1).1
told_within table (Act lane v g a r) h = tt

triggered_within : (table : Table) (e : TraceEvent) → IsTrue (is_in_table table e) → IsTriggeredWithin (length table.tasks) e
triggered_within table Idle h = tt
triggered_within table (Began t g v) h = tt
triggered_within table (Step t g m f) h = go m (and_parts (is_programs table g) (if_named (is_tasks table) (triggered m)) (and_parts (is_tasks table t) (is_programs table g && if_named (is_tasks table) (triggered m)) h).1).1
  where
    go : (m : TraceMark) → if_named (is_tasks table) (triggered m) ≡ true → IsTriggeredWithin (length table.tasks) (Step t g m f)
    go (mark.Trigger u) k = ltb-true u (length table.tasks) k
    go mark.Plain k = tt
    go mark.Up k = tt
    go mark.Down k = tt
    go mark.Copy k = tt
    go mark.Sync k = tt
    go mark.CopyEnd k = tt
    go mark.SyncEnd k = tt
triggered_within table (Left t g b) h = tt
triggered_within table (Tick r o w) h = tt
triggered_within table (Act lane v g a r) h = tt

-- the same of each event of a trace
pub all_told : (table : Table) (trace : List TraceEvent) → AreInTable table trace → (k : ℕ) → k < length trace → IsToldWithin (length table.tasks) (slice_index_or trace k Idle)
all_told table trace known k h = told_within table (slice_index_or trace k Idle) (known k h)

pub all_triggered : (table : Table) (trace : List TraceEvent) → AreInTable table trace → (k : ℕ) → k < length trace → IsTriggeredWithin (length table.tasks) (slice_index_or trace k Idle)
all_triggered table trace known k h = triggered_within table (slice_index_or trace k Idle) (known k h)
