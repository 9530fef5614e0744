use Rattle.std.proofs.Common.{◌≡◌, take}
use Rattle.lgx_declare.specs.Listing.{listed}
use Rattle.lgx_declare.proofs.tasks.listed_in.Given as goal

abbrev pub invariant-loop-i : goal.invariant-loop-i
invariant-loop-i l = l.list.items ≡ listed l.programs (take l.i l.tasks)
