use Rattle.std.proofs.Common.{arith}
use Rattle.cmd_trace.specs.TraceLeft.{no_run}
use Rattle.cmd_trace.proofs.Places.{runs_fit}
use Rattle.cmd_trace.proofs.place.pass.Goals as goal

pub overflow_add-done : goal.overflow_add-done
overflow_add-done c = let is = c.count_at-count.ensures no_run in let below = c.requires.next in let most = c.count_at-count.auto in omega arith

pub overflow_add-run : goal.overflow_add-run
overflow_add-run c = let some = c.requires.some in let fit = runs_fit c.args.journal.now.events c.requires.few in omega arith
