use Rattle.std.proofs.Common.{Bool, Option, ap, sym, ◌∙◌}
use Rattle.std.specs.Prelude.{is_none}
use Rattle.spec_schedule.specs.declared.trace.TraceEvent.{TraceEvent}
use Rattle.spec_schedule.specs.Counting.{stepping}
use Rattle.lgx_laws.specs.Copies.{goes_on, keeps_copies}
use Rattle.lgx_laws.proofs.CopiesAt.{copy_at}
use Rattle.lgx_laws.proofs.copies.keeps_copies.Goals as goal

pub bounds-kept-task : goal.bounds-kept-task
bounds-kept-task c = c.requires.within c.in-Began.task (ap stepping c.in-Began.is)

pub bounds-kept-task-in-Step : goal.bounds-kept-task-in-Step
bounds-kept-task-in-Step c = c.requires.within c.in-Step.task (ap stepping c.in-Step.is)

pub bounds-kept-task-in-Left : goal.bounds-kept-task-in-Left
bounds-kept-task-in-Left c = c.requires.within c.in-Left.task (ap stepping c.in-Left.is)

pub returns-in-Began : goal.returns-in-Began
returns-in-Began c cs ns past h =
    let l = c.requires.within c.in-Began.task (ap stepping c.in-Began.is) in
    c.has_none.ensures
    ∙ (ap (λ (o : Option Bool). is_none o) (copy_at c.args.kept.now cs past h _ c.in-Began.task l) ∙ sym (ap (λ (e : TraceEvent). keeps_copies past (record { tasks = cs; programs = ns; event = e })) c.in-Began.is))

pub returns-in-Step : goal.returns-in-Step
returns-in-Step c cs ns past h =
    let l = c.requires.within c.in-Step.task (ap stepping c.in-Step.is) in
    c.goes_on.ensures
    ∙ (ap (λ (o : Option Bool). goes_on o c.in-Step.mark c.in-Step.fault) (copy_at c.args.kept.now cs past h _ c.in-Step.task l)
    ∙ sym (ap (λ (e : TraceEvent). keeps_copies past (record { tasks = cs; programs = ns; event = e })) c.in-Step.is))

pub returns-in-Left : goal.returns-in-Left
returns-in-Left c cs ns past h =
    let l = c.requires.within c.in-Left.task (ap stepping c.in-Left.is) in
    c.has_none-in-Left.ensures
    ∙ (ap (λ (o : Option Bool). is_none o) (copy_at c.args.kept.now cs past h _ c.in-Left.task l) ∙ sym (ap (λ (e : TraceEvent). keeps_copies past (record { tasks = cs; programs = ns; event = e })) c.in-Left.is))
