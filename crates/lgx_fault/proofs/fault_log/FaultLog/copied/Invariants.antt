-- Those before are copied.
use Rattle.std.proofs.Common.{◌≡◌, ◌≤◌, length, take}
use Rattle.spec_base.specs.declared.limits.TheConstants.{FAULT_LOG_LENGTH}
use Rattle.lgx_fault.proofs.fault_log.FaultLog.copied.Given as goal

abbrev pub invariant-loop-i : goal.invariant-loop-i
invariant-loop-i l = (l.copy ≡ take l.i l.self) × (l.i-end ≡ length l.self) × (length l.self ≤ FAULT_LOG_LENGTH)
