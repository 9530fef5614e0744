-- An edit takes again what was taken, or it doesn't and the next are looked at.
use Rattle.std.proofs.Common.{◌≡◌, true, false, take, sym, ◌∙◌}
use Rattle.lgx_edit.proofs.Again.{taken_in, again, again_here, again_later}
use Rattle.lgx_edit.proofs.judge.first_again.Goals as goal

pub returns-then-is_again : goal.returns-then-is_again
returns-then-is_again c =
    let taken = taken_in c.args.routine c.args.accepted.now in
    let es = c.args.edits.now in
    let held : again taken (take c.loop-k.k es) c.index-edits-k.result ≡ true = sym c.if-is_again.ensures in
    sym (c.loop-k.invariant ∙ again_here taken es c.loop-k.k c.index-edits-k.result c.loop-k-test.true c.index-edits-k.is held)

pub loop-k-preserved : goal.loop-k-preserved
loop-k-preserved c =
    let taken = taken_in c.args.routine c.args.accepted.now in
    let es = c.args.edits.now in
    let held : again taken (take c.loop-k.k es) c.index-edits-k.result ≡ false = sym c.if-is_again.ensures in
    c.loop-k.invariant ∙ again_later taken es c.loop-k.k c.index-edits-k.result c.loop-k-test.true c.index-edits-k.is held
