use Rattle.std.proofs.Common.{arith, sym, ◌∙◌}
use Rattle.lgx_question.specs.Seen.{holds_in}
use Rattle.lgx_question.proofs.ReadTests.{found_at, found_nowhere}
use Rattle.lgx_question.proofs.shown.first_line.Goals as goal

pub returns-then-holds : goal.returns-then-holds
returns-then-holds c =
    let lines = c.as_slice-lines.result.now in
    rw (← c.as_slice-lines.ensures)
    (found_at (holds_in c.args.values.now c.args.ended) lines c.loop-n.n c.index-lines-n.result (omega arith) c.index-lines-n.is (sym c.holds.ensures ∙ c.if-holds.true) c.loop-n.invariant)

pub returns : goal.returns
returns c =
    let lines = c.as_slice-lines.result.now in
    rw (← c.as_slice-lines.ensures)
    (found_nowhere (holds_in c.args.values.now c.args.ended) lines c.loop-n.n (omega arith) c.loop-n.invariant)
