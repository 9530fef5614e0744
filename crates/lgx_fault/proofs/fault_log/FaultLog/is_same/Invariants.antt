-- Those before are the same.
use Rattle.std.proofs.Common.{◌≡◌, length, take}
use Rattle.lgx_fault.proofs.fault_log.FaultLog.is_same.Given as goal

abbrev pub invariant-loop-i : goal.invariant-loop-i
invariant-loop-i l = (length l.self ≡ length l.other) × (l.i-end ≡ length l.self) × (take l.i l.self ≡ take l.i l.other)
