use Rattle.std.proofs.Common.{length}
use Rattle.test_rungs.proofs.types.+have_members.Given as goal

abbrev pub decreases-have_members : goal.decreases-have_members
decreases-have_members l = length l.decls.now
