-- What each kind of event does to a run and to the log, whichever run it was.
use Rattle.std.proofs.Common.{◌≡◌, ℕ, suc, ◌+◌, ◌-◌, ◌^◌, ◌<◌, ◌≤◌, [], ◌∷◌, length, map, replicate, ◌∙◌, arith}
use Rattle.spec_base.specs.declared.limits.TheConstants.{MAX_TASKS}
use Rattle.spec_machine.specs.declared.answer.Moment.{Moment}
use Rattle.spec_machine.specs.declared.answer.TickReport.{TickReport}
use Rattle.spec_machine.specs.declared.answer.Outcome.{Outcome}
use Rattle.spec_machine.specs.declared.event.Action.{Action}
use Rattle.spec_machine.specs.declared.event.Event.TheVariants.{Cpu, Tick, Act}
use Rattle.spec_machine.specs.declared.line.Line.TheVariants.{Fault as FaultLine, Reply}
use Rattle.spec_machine.specs.State.{State}
use Rattle.spec_machine.specs.ProcessorStep.{processor_step}
use Rattle.spec_machine.specs.Ticks.{tick}
use Rattle.spec_machine.specs.Actions.{act}
use Rattle.spec_machine.specs.Machine.{run}
use Rattle.spec_machine.specs.TickLaws.{report_faults}
use Rattle.spec_machine.specs.Report.{begin_lines}
use Rattle.lgx_watch.specs.Kept.{KeptLines, with_lines}
use Rattle.lgx_steps.specs.declared.begins.Begins.{Begins}
use Rattle.lgx_steps.specs.declared.stretch.Stretch.{Stretch}
use Rattle.lgx_core.specs.ControllerView.{ControllerView}
use Rattle.lgx_core.specs.Represents.{RepresentsController}
use Rattle.lgx_core.specs.Gives.{Gives, StretchGives}
use Rattle.lgx_record.specs.declared.lines.Stamp.{Stamp}
use Rattle.lgx_record.specs.RunView.{RunView}
use Rattle.lgx_record.specs.Faults.{faults_in}
use Rattle.lgx_record.specs.EventLines.{begins_lines, with_event_lines}
use Rattle.lgx_record.specs.Extends.{Extends}
use Rattle.lgx_record.proofs.Events.{Closes, step-taken, tick-taken, act-taken}
use Rattle.lgx_record.proofs.Stretched.{stretch-taken}
use Rattle.lgx_record.proofs.StepLines.{same-tick}

module _ (old new : RunView) (c : ControllerView) (start first second end : KeptLines) (at : Stamp) (k : Closes old new c second end at) (same_watched : c.parts.image.watched ≡ old.controller.parts.image.watched) where
  pub stretch-extends : (base : KeptLines) (from : Stamp) (b : Begins) (x : Stretch) → 0 < x.steps → ((s : State) → RepresentsController old.controller s → StretchGives c b x s) → ((s : State) → RepresentsController c s → from.tick ≡ s.tick) → from.step ≡ old.steps → start ≡ with_lines base (begins_lines from.tick from.step b.began b.steps.items) → c.spent ≡ old.controller.spent + x.steps → new.steps ≡ old.steps + x.steps → first ≡ with_event_lines start at (begin_lines x.last.what) → second ≡ with_event_lines first at (map FaultLine (faults_in x.last.fault)) → Extends old new base end (replicate x.steps Cpu)
  stretch-extends base from b x some gives tick_is step_is started spent steps begun faulted = λ project events r.
      let many : x.steps ≡ suc (x.steps - 1) = omega arith in
      let g = gives (run project events) r.controller.represents in
      stretch-taken old new c base start first second end from at project events r k same_watched b x (x.steps - 1) many g (tick_is _ g.represents ∙ same-tick x.steps (run project events)) step_is started spent steps begun faulted

  pub step-extends : (moment : Moment) → c.spent ≡ old.controller.spent + 1 → ((s : State) → RepresentsController old.controller s → Gives c moment (processor_step s)) → new.steps ≡ old.steps + 1 → first ≡ with_event_lines start at (begin_lines moment.what) → second ≡ with_event_lines first at (map FaultLine (faults_in moment.fault)) → Extends old new start end (Cpu ∷ [])
  step-extends moment spent gives steps begun faulted = λ project events r.
      step-taken old new c start first second end at project events r k spent same_watched moment (gives _ r.controller.represents) steps begun faulted

  pub tick-extends : (report : TickReport) → c.spent ≡ old.controller.spent + 1 → ((s : State) → RepresentsController old.controller s → Gives c report (tick s)) → new.steps ≡ old.steps → first ≡ start → ((s : State) → s.tick ≡ at.tick → length s.table.defs ≤ MAX_TASKS → report.overlapped < 2 ^ length s.table.defs → second ≡ with_event_lines first at (map FaultLine (report_faults s report))) → Extends old new start end (Tick ∷ [])
  tick-extends report spent gives steps begun faulted = λ project events r.
      tick-taken old new c start first second end at project events r k spent same_watched report (gives _ r.controller.represents) steps begun faulted

  pub act-extends : (lane : ℕ) (action : Action) (outcome : Outcome) → c.spent ≡ old.controller.spent + 1 → ((s : State) → RepresentsController old.controller s → Gives c outcome (act s lane action)) → new.steps ≡ old.steps → first ≡ with_event_lines start at (Reply lane outcome.reply ∷ []) → second ≡ with_event_lines first at (map FaultLine (faults_in outcome.fault)) → Extends old new start end (Act lane action ∷ [])
  act-extends lane action outcome spent gives steps answered faulted = λ project events r.
      act-taken old new c start first second end at project events r k spent same_watched lane action outcome (gives _ r.controller.represents) steps answered faulted
