use Rattle.std.proofs.Common.{◌≡◌, map, take}
use Rattle.lgx_declare.specs.Listing.{numbers_of}
use Rattle.lgx_project.proofs.tasks.lists.Given as goal

abbrev pub invariant-loop-i : goal.invariant-loop-i
invariant-loop-i l = l.lists.items ≡ map (λ t. numbers_of l.programs t.programs) (take l.i l.tasks)
