use Rattle.std.proofs.Common.{◌≡◌, drop}
use Rattle.std.specs.List.{position_from}
use Rattle.lgx_num.specs.Name.{same}
use Rattle.lgx_places.proofs.named.program_named.Given as goal

abbrev pub invariant-loop-n : goal.invariant-loop-n
invariant-loop-n l = position_from (λ q. same q.name l.name) l.n (drop l.n l.programs) ≡ position_from (λ q. same q.name l.name) 0 l.programs
