use Rattle.std.proofs.Common.{append_assoc}
use Rattle.lgx_gen.specs.Listed.{numbered}
use Rattle.lgx_gen.proofs.ListsOn.{listed-start, listed-push}
use Rattle.lgx_gen.proofs.pieces.push_listed.Goals as goal

pub loop-number-init : goal.loop-number-init
loop-number-init c = listed-start c.args.text.now.items (numbered c.args.before.now c.args.after.now)

pub loop-number-preserved : goal.loop-number-preserved
loop-number-preserved c =
    let more = listed-push c.args.text.now.items (numbered c.args.before.now c.args.after.now) c.loop-number.number in
    rw (← more, c.in_ok-extend_from_slice.ensures.items, c.in_ok-push_numbered.ensures, c.in_ok-push_comma.ensures, c.loop-number.invariant) (simp append_assoc)
