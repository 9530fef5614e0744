use Rattle.std.proofs.Common.{arith, sym, ◌∙◌}
use Rattle.lgx_num.specs.Name.{same}
use Rattle.lgx_question.proofs.ReadTests.{found_at, found_nowhere}
use Rattle.lgx_question.proofs.words.named.Goals as goal

pub returns : goal.returns
returns c = found_nowhere (λ n. same n c.args.name.now) c.args.names.now c.loop-n.n (omega arith) c.loop-n.invariant

pub returns-then-same : goal.returns-then-same
returns-then-same c =
    found_at (λ n. same n c.args.name.now) c.args.names.now c.loop-n.n c.index-names-n.result (omega arith) c.index-names-n.is (rw (← c.as_slice.ensures) (sym c.same.ensures ∙ c.if-same.true)) c.loop-n.invariant
