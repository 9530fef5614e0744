use Rattle.std.proofs.Common.{◌≡◌, drop}
use Rattle.lgx_num.specs.Name.{goes_on}
use Rattle.lgx_num.proofs.name.goes_on.Given as goal

abbrev pub invariant-loop-byte : goal.invariant-loop-byte
invariant-loop-byte l =
    goes_on l.before (drop l.byte-index l.rest) ≡ goes_on l.initial.before l.rest
