-- Tasks and programs of an event of the table.
use Rattle.std.proofs.Common.{◌≡◌, ℕ, ◌<◌, List, length, true, ◌&&◌, Option, Some, None, IsTrue, subst}
use Rattle.std.specs.Prelude.{slice_index_or, nat_le}
use Rattle.std.proofs.lemmas.Bool.{and_parts, ltb-true}
use Rattle.spec_base.specs.declared.limits.TheConstants.{OWN_LANE}
use Rattle.spec_schedule.specs.declared.trace.TraceEvent.{TraceEvent}
use Rattle.spec_schedule.specs.declared.trace.TraceEvent.TheVariants.{Idle, Began, Step, Left, Tick, Act}
use Rattle.spec_schedule.specs.declared.trace.Table.{Table}
use Rattle.lgx_audit.specs.TraceTable.{is_tasks, is_programs, is_mask, if_named, triggered, is_in_table, AreInTable}
use Rattle.lgx_audit.specs.Along.{IsWithin, IsOfPrograms}

same_task : {n : ℕ} (t u : ℕ) → Some t ≡ Some u → t < n → u < n
same_task {n = n} t u e h = subst (λ k. k < n) (let same : t ≡ u = cc in same) h

some_is_none : {A : Type 0} {x : A} → None ≡ Some x → ⊥
some_is_none e = cc

pub task_within : (table : Table) (e : TraceEvent) → IsTrue (is_in_table table e) → IsWithin (length table.tasks) e
task_within table Idle h u is = absurd (some_is_none is)
task_within table (Began t g v) h u is = same_task t u is (ltb-true t (length table.tasks) (and_parts (is_tasks table t) (is_programs table g) h).0)
task_within table (Step t g m f) h u is = same_task t u is (ltb-true t (length table.tasks) (and_parts (is_tasks table t) (is_programs table g && if_named (is_tasks table) (triggered m)) h).0)
task_within table (Left t g b) h u is = same_task t u is (ltb-true t (length table.tasks) (and_parts (is_tasks table t) (is_programs table g) h).0)
task_within table (Tick r o w) h u is = absurd (some_is_none is)
task_within table (Act lane v g a r) h u is = absurd (some_is_none is)

named_within : (table : Table) (g : Option ℕ) (u : ℕ) → if_named (is_programs table) g ≡ true → g ≡ Some u → u < table.programs
named_within table None u h is = absurd (some_is_none is)
named_within table (Some g) u h is = same_task g u is (ltb-true g table.programs h)

pub program_within : (table : Table) (e : TraceEvent) → IsTrue (is_in_table table e) → IsOfPrograms table.programs e
program_within table Idle h u is = absurd (some_is_none is)
program_within table (Began t g v) h u is = same_task g u is (ltb-true g table.programs (and_parts (is_tasks table t) (is_programs table g) h).1)
program_within table (Step t g m f) h u is = absurd (some_is_none is)
program_within table (Left t g b) h u is = absurd (some_is_none is)
program_within table (Tick r o w) h u is = absurd (some_is_none is)
program_within table (Act lane v g a r) h u is = named_within table g u (and_parts (if_named (is_programs table) g) (is_mask table r) (and_parts (nat_le lane OWN_LANE) (if_named (is_programs table) g && is_mask table r) h).1).0 is

-- the same of each event of a trace
pub tasks_within : (table : Table) (trace : List TraceEvent) → AreInTable table trace → (k : ℕ) → k < length trace → IsWithin (length table.tasks) (slice_index_or trace k Idle)
tasks_within table trace known k h = task_within table (slice_index_or trace k Idle) (known k h)

pub programs_within : (table : Table) (trace : List TraceEvent) → AreInTable table trace → (k : ℕ) → k < length trace → IsOfPrograms table.programs (slice_index_or trace k Idle)
programs_within table trace known k h = program_within table (slice_index_or trace k Idle) (known k h)
