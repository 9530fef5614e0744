use Rattle.std.proofs.Common.{ap, sym, ◌∙◌}
use Rattle.spec_schedule.specs.declared.trace.TraceAnswer.{TraceAnswer}
use Rattle.spec_schedule.specs.declared.trace.TraceEvent.TheVariants.{Act}
use Rattle.lgx_laws.specs.Modes.{mode_shown}
use Rattle.lgx_laws.proofs.ModesAt.{same_refused, same_numbered}
use Rattle.lgx_laws.proofs.modes.mode_by.Goals as goal

pub returns-in-Done : goal.returns-in-Done
returns-in-Done c lane mask g =
    c.mode_of.ensures lane mask g ∙ sym (ap (λ (a : TraceAnswer). mode_shown (Act lane c.args.verb g a mask) c.args.before) c.in-Done.is)

pub returns-in-No : goal.returns-in-No
returns-in-No c lane mask g =
    same_refused c.args.verb lane mask g c.args.before ∙ sym (ap (λ (a : TraceAnswer). mode_shown (Act lane c.args.verb g a mask) c.args.before) c.in-No.is)

pub returns-in-Number : goal.returns-in-Number
returns-in-Number c lane mask g =
    same_numbered c.args.verb _ lane mask g c.args.before ∙ sym (ap (λ (a : TraceAnswer). mode_shown (Act lane c.args.verb g a mask) c.args.before) c.in-Number.is)
