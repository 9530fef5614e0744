use Rattle.std.proofs.Common.{◌≡◌, take}
use Rattle.lgx_num.proofs.place.Steps.copied.Given as goal

abbrev pub invariant-loop-index : goal.invariant-loop-index
invariant-loop-index l = l.copy ≡ take l.index-index l.index-items
