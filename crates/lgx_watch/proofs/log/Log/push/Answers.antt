use Rattle.std.proofs.Common.{arith}
use Rattle.std.proofs.lemmas.Grind.{common_steps}
use Rattle.lgx_watch.proofs.Pushes.{stands_after_push}
use Rattle.lgx_watch.proofs.log.Log.push.Goals as goal

pub returns-then-len-lt-MAX_REPORT_LINES-clause-holds : goal.returns-then-len-lt-MAX_REPORT_LINES-clause-holds
returns-then-len-lt-MAX_REPORT_LINES-clause-holds c =
    stands_after_push c.args.self.now _ (record { tick = c.args.tick; step = c.args.step; line = c.args.line }) (grind (arith, common_steps))

pub returns-else-len-lt-MAX_REPORT_LINES-clause-holds : goal.returns-else-len-lt-MAX_REPORT_LINES-clause-holds
returns-else-len-lt-MAX_REPORT_LINES-clause-holds c =
    stands_after_push c.args.self.now _ (record { tick = c.args.tick; step = c.args.step; line = c.args.line }) (grind (arith, common_steps))
