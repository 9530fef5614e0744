use Rattle.std.proofs.Common.{◌≡◌, drop}
use Rattle.std.specs.List.{position_from}
use Rattle.lgx_num.specs.Name.{same}
use Rattle.cmd_trace.proofs.seen.number_of.Given as goal

abbrev pub invariant-loop-i : goal.invariant-loop-i
invariant-loop-i l = position_from (λ n. same n l.name) l.i (drop l.i l.names) ≡ position_from (λ n. same n l.name) 0 l.names
