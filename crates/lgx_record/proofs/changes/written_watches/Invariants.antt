use Rattle.std.proofs.Common.{◌-◌, ◌^◌}
use Rattle.lgx_record.proofs.Written.{IsJoined}
use Rattle.lgx_record.proofs.changes.written_watches.Given as goal

abbrev pub invariant-loop-word : goal.invariant-loop-word
invariant-loop-word l = IsJoined l.watches l.controller.parts.image l.written l.from

abbrev pub decreases-loop-word : goal.decreases-loop-word
decreases-loop-word l = 2 ^ 32 - l.from
