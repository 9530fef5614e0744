use Rattle.std.proofs.Common.{◌∙◌, sym, arith}
use Rattle.lgx_laws.proofs.Enumerated.{open_here, open_nowhere}
use Rattle.lgx_laws.proofs.regions.another_open.Goals as goal

pub returns-then-is_other_open : goal.returns-then-is_other_open
returns-then-is_other_open c cs shown =
    sym (open_here c.args.t c.args.counts.now cs shown c.loop-u.u (let l = c.loop-u-test.true in omega arith) (sym c.is_other_open.ensures ∙ c.if-is_other_open.true))

pub returns : goal.returns
returns c cs shown =
    sym (open_nowhere c.args.t c.args.counts.now cs shown (λ u l. c.loop-u.invariant u (let e = c.loop-u-test.false in omega arith)))
