-- The first routine of the name is among those from the index on.
use Rattle.std.proofs.Common.{◌≡◌, map, drop}
use Rattle.std.specs.List.{position_from}
use Rattle.lgx_num.specs.Name.{same}
use Rattle.lgx_edit.specs.Texts.{base_of}
use Rattle.lgx_edit.proofs.owner.routine_named.Given as goal

abbrev pub invariant-loop-n : goal.invariant-loop-n
invariant-loop-n l =
    position_from (λ r. same r.name l.name) 0 (map base_of l.routines) ≡ position_from (λ r. same r.name l.name) l.n (map base_of (drop l.n l.routines))
