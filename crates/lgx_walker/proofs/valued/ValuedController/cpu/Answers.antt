-- After the step that was made.
use Rattle.std.proofs.Common.{refl, ap}
use Rattle.std.proofs.lemmas.Result.{IfOk-weaker}
use Rattle.spec_machine.specs.declared.event.Event.TheVariants.{Cpu}
use Rattle.spec_machine.specs.Machine.{OfStep, run}
use Rattle.lgx_walker.proofs.Seeing.{event_watched, ended_after}
use Rattle.lgx_walker.proofs.valued.ValuedController.cpu.Goals as goal

pub returns-clause-line : goal.returns-clause-line
returns-clause-line c =
    IfOk-weaker c.line.result _ _
    (λ o line p journal w. line p journal Cpu (event_watched p journal Cpu c.args.self.now _ refl (c.cpu.ensures.runs p journal w.stands_for).stands w)
    (ended_after p journal c.cpu.result c.ended_by-ended.result (ap OfStep (c.cpu.ensures.step (run p journal) w.stands_for.represents).answers) c.ended_by-ended.ensures))
    c.line.ensures.line
