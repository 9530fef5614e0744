-- By whether the pace divides the step's number.
use Rattle.std.proofs.Common.{List, [], ◌∷◌, ◌++◌, ◌∙◌, subst}
use Rattle.spec_machine.specs.declared.event.Event.{Event}
use Rattle.spec_machine.specs.declared.event.Event.TheVariants.{Cpu}
use Rattle.lgx_record.specs.Records.{Records}
use Rattle.lgx_shared.proofs.Paces.{with_tick, without_tick}
use Rattle.lgx_shared.proofs.serving.make_step.Goals as goal

pub returns-then-steps-pace-eq0-clause-records : goal.returns-then-steps-pace-eq0-clause-records
returns-then-steps-pace-eq0-clause-records c = λ project events r.
    subst (λ (es : List Event). Records c.tick.new.self project es) (with_tick events c.args.pace c.steps.result _ (c.steps.ensures ∙ c.step.ensures.counts.steps) c.if-steps-pace-eq0.true)
    (c.tick.ensures.records project (events ++ Cpu ∷ []) (c.step.ensures.records project events r))

pub returns-else-steps-pace-eq0-clause-records : goal.returns-else-steps-pace-eq0-clause-records
returns-else-steps-pace-eq0-clause-records c = λ project events r.
    subst (λ (es : List Event). Records c.step.new.self project es) (without_tick events c.args.pace c.steps.result _ (c.steps.ensures ∙ c.step.ensures.counts.steps) c.if-steps-pace-eq0.false)
    (c.step.ensures.records project events r)
