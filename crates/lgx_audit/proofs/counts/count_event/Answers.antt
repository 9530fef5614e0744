use Rattle.std.proofs.Common.{◌∙◌, sym}
use Rattle.lgx_audit.proofs.OneTask.{none_changed, one_changed}
use Rattle.lgx_audit.proofs.counts.count_event.Goals as goal

pub returns-in-Some-clause-counts : goal.returns-in-Some-clause-counts
returns-in-Some-clause-counts c cs h =
    one_changed c.args.tasks.now c.args.e.now c.args.counts.now c.counted.result cs c.in-Some.t c.requires.many
    (c.requires.within c.in-Some.t (sym c.stepping.ensures ∙ c.in-Some.is)) (sym c.is_for_all.ensures ∙ c.if-is_for_all.false) (sym c.stepping.ensures ∙ c.in-Some.is)
    (λ x is. c.counted.ensures.counts x is) h

pub returns-in_default-clause-counts : goal.returns-in_default-clause-counts
returns-in_default-clause-counts c cs h =
    none_changed c.args.tasks.now c.args.e.now c.args.counts.now cs c.requires.many (sym c.is_for_all.ensures ∙ c.if-is_for_all.false) (sym c.stepping.ensures ∙ c.in_default.is) h
