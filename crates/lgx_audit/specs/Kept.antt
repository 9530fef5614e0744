-- The numbers of an event, as their types keep them.
use Rattle.std.specs.Prelude.{ℕ, ◌^◌, Bool, true, ◌&&◌, nat_lt}
use Rattle.spec_schedule.specs.declared.trace.TraceAnswer.{TraceAnswer}
use Rattle.spec_schedule.specs.declared.trace.TraceAnswer.TheVariants.{Number}
use Rattle.spec_schedule.specs.declared.trace.TraceEvent.{TraceEvent}
use Rattle.spec_schedule.specs.declared.trace.TraceEvent.TheVariants.{Idle, Began, Step, Left, Tick, Act}
use Rattle.lgx_audit.specs.TraceTable.{if_named, triggered}

-- a number of 32 bits
abbrev pub is_u32 : ℕ → Bool
is_u32 n = nat_lt n (2 ^ 32)

-- the number of an accept
abbrev pub is_kept_answer : TraceAnswer → Bool
is_kept_answer (Number n) = is_u32 n
is_kept_answer _ = true

abbrev pub is_kept : TraceEvent → Bool
is_kept Idle = true
is_kept (Began t g v) = is_u32 t && (is_u32 g && is_u32 v)
is_kept (Step t g mark fault) = is_u32 t && (is_u32 g && if_named is_u32 (triggered mark))
is_kept (Left t g ended) = is_u32 t && is_u32 g
is_kept (Tick r o watchdog) = is_u32 r && (is_u32 o && if_named is_u32 watchdog)
is_kept (Act lane verb g answer r) = is_u32 lane && (if_named is_u32 g && (is_kept_answer answer && is_u32 r))
