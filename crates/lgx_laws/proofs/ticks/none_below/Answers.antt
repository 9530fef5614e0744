use Rattle.std.proofs.Common.{◌∙◌, sym, arith}
use Rattle.lgx_laws.proofs.TicksAt.{none_out, out_from, some_out}
use Rattle.lgx_laws.proofs.ticks.none_below.Goals as goal

pub returns-then-runs_out : goal.returns-then-runs_out
returns-then-runs_out c cs ns past e shown held =
    let m = c.requires.many in
    let n = shown.many in
    let w = c.requires.within in
    sym (some_out c.args.tasks.now c.args.counts.now c.args.kept.now cs ns past e shown held c.args.n c.loop-t.t (omega arith) (let l = c.loop-t-test.true in omega arith)
    (out_from c.args.tasks.now c.args.counts.now c.args.kept.now cs ns past e shown held _ c.loop-t.t (let l = c.loop-t-test.true in omega arith) (sym c.runs_out.ensures ∙ c.if-runs_out.true)))

pub returns : goal.returns
returns c cs ns past e shown held =
    let m = c.requires.many in
    let n = shown.many in
    let w = c.requires.within in
    sym (none_out c.args.tasks.now c.args.counts.now c.args.kept.now cs ns past e shown held c.args.n (omega arith) (λ k l. c.loop-t.invariant k (let e = c.loop-t-test.false in omega arith)))
