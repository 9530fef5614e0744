use Rattle.std.proofs.Common.{◌∙◌, sym, arith}
use Rattle.lgx_laws.proofs.StartsAt.{mask_here, mask_nowhere}
use Rattle.lgx_laws.proofs.starts.is_event_mask.Goals as goal

pub returns-then-is_mask_of : goal.returns-then-is_mask_of
returns-then-is_mask_of c cs ns e shown =
    sym (mask_here c.args.tasks.now c.args.counts.now c.args.mask cs ns e shown c.requires.many _ c.loop-t.t c.loop-t-test.true (sym c.is_mask_of.ensures ∙ c.if-is_mask_of.true))

pub returns : goal.returns
returns c cs ns e shown =
    sym (mask_nowhere c.args.tasks.now c.args.counts.now c.args.mask cs ns e shown c.requires.many (λ k l. c.loop-t.invariant k (let e = c.loop-t-test.false in omega arith)))
