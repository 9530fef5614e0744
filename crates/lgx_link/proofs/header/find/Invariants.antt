use Rattle.std.proofs.Common.{◌≡◌, drop}
use Rattle.std.specs.List.{position_from}
use Rattle.lgx_num.specs.Name.{same}
use Rattle.lgx_link.proofs.header.find.Given as goal

abbrev pub invariant-loop-n : goal.invariant-loop-n
invariant-loop-n l = position_from (λ c. same c.name l.name) l.n (drop l.n l.conns) ≡ position_from (λ c. same c.name l.name) 0 l.conns
