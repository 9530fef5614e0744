use Rattle.std.proofs.Common.{◌≡◌, ◌++◌, take}
use Rattle.lgx_declare.specs.Listing.{numbers_of}
use Rattle.lgx_declare.proofs.tasks.list_programs.Given as goal

abbrev pub invariant-loop-i : goal.invariant-loop-i
invariant-loop-i l = l.list.items ≡ l.initial.list.items ++ numbers_of l.programs (take l.i l.names)
