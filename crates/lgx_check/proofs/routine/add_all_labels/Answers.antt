use Rattle.std.proofs.Common.{◌≡◌, length, subst, arith}
use Rattle.lgx_check.specs.Progress.{HasLabels}
use Rattle.lgx_check.proofs.Progress.{labels_more}
use Rattle.lgx_check.proofs.routine.add_all_labels.Goals as goal

pub loop-number-preserved : goal.loop-number-preserved
loop-number-preserved c =
    labels_more c.args.checker.now.scope c.args.rungs.now c.loop-number.number c.index-rungs-number.result c.loop-number.checker c.add_labels.new.self
    c.loop-number.invariant c.loop-number-test.true c.index-rungs-number.is c.in_ok-add_labels.ensures

pub returns : goal.returns
returns c =
    let all : c.loop-number.number ≡ length c.args.rungs.now = omega (arith, c.loop-number-test.false, c.loop-number.auto.number-end) in
    subst (λ n. HasLabels c.args.checker.now.scope c.args.rungs.now n c.loop-number.checker) all c.loop-number.invariant
