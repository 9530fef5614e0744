-- None of the names before is the same.
use Rattle.std.proofs.Common.{◌≡◌, drop}
use Rattle.std.specs.List.{position_from}
use Rattle.lgx_num.specs.Name.{same}
use Rattle.lgx_question.proofs.words.named.Given as goal

abbrev pub invariant-loop-n : goal.invariant-loop-n
invariant-loop-n l = position_from (λ n. same n l.name) l.n (drop l.n l.names) ≡ position_from (λ n. same n l.name) 0 l.names
