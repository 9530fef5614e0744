use Rattle.std.proofs.Common.{None}
use Rattle.lgx_image.proofs.Words.{next_mark, no_mark}
use Rattle.lgx_watch.specs.declared.bits.TheConstants.{MAX_WATCHES}
use Rattle.lgx_watch.specs.Watches.{NextMember}
use Rattle.lgx_watch.proofs.watch_set.WatchSet.next.Goals as goal

pub returns-in_err-member-clause-next : goal.returns-in_err-member-clause-next
returns-in_err-member-clause-next c =
    let none : NextMember c.args.self.now c.args.from None = rw (← c.self.view_is) (no_mark c.self.inside.words MAX_WATCHES c.args.from c.in_err-member.ensures) in
    rw c.from_residual.ensures none

pub returns-then-member-lt-MAX_WATCHES-clause-next : goal.returns-then-member-lt-MAX_WATCHES-clause-next
returns-then-member-lt-MAX_WATCHES-clause-next c =
    rw (← c.self.view_is) (next_mark c.self.inside.words MAX_WATCHES c.args.from c.in_ok-member.member c.if-member-lt-MAX_WATCHES.true c.in_ok-member.ensures)
