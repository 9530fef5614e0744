use Rattle.std.proofs.Common.{◌≡◌, [], replicate}
use Rattle.lgx_journal.proofs.script.empty_lanes.Given as goal

abbrev pub invariant-loop : goal.invariant-loop
invariant-loop l = l.lanes.items ≡ replicate l.counter []
