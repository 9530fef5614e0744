use Rattle.std.proofs.Common.{◌≡◌, take}
use Rattle.lgx_types.proofs.structures.copied.Given as goal

abbrev pub invariant-loop-i : goal.invariant-loop-i
invariant-loop-i l = l.members.items ≡ take l.i l.given
