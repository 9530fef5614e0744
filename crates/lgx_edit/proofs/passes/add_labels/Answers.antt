-- The labels of one rung more are added.
use Rattle.lgx_check.proofs.Progress.{labels_more}
use Rattle.lgx_edit.specs.Picks.{pick_source, pick_sources}
use Rattle.lgx_edit.proofs.Passing.{within, source_at}
use Rattle.lgx_edit.proofs.passes.add_labels.Goals as goal

pub loop-number-preserved : goal.loop-number-preserved
loop-number-preserved c =
    let picks = c.args.picks.now in
    let n = c.loop-number.number in
    let pick = c.index-picks-number.result in
    labels_more c.args.checker.now.scope (pick_sources picks) n (pick_source pick) c.loop-number.checker c.add_labels_of.new.checker c.loop-number.invariant
    (within picks n c.loop-number-test.true) (source_at picks n pick c.loop-number-test.true c.index-picks-number.is) c.in_ok-add_labels_of.ensures
