-- What each kind of event does to a run and to the log.
use Rattle.std.proofs.Common.{◌≡◌, ℕ, ◌+◌, ◌^◌, ◌<◌, ◌≤◌, List, [], ◌∷◌, length, map, ℤ, sym, ap, ◌∙◌, subst}
use Rattle.spec_base.specs.declared.limits.TheConstants.{MAX_TASKS}
use Rattle.lgx_image.specs.Grains.{NoneIsHit}
use Rattle.spec_machine.specs.declared.answer.Moment.{Moment}
use Rattle.spec_machine.specs.declared.answer.TickReport.{TickReport}
use Rattle.spec_machine.specs.declared.answer.Outcome.{Outcome}
use Rattle.spec_machine.specs.declared.event.Action.{Action}
use Rattle.spec_machine.specs.declared.event.Event.{Event}
use Rattle.spec_machine.specs.declared.event.Event.TheVariants.{Cpu, Tick, Act}
use Rattle.spec_machine.specs.declared.line.Line.TheVariants.{Fault as FaultLine, Reply}
use Rattle.spec_machine.specs.Project.{Project}
use Rattle.spec_machine.specs.State.{State}
use Rattle.spec_machine.specs.ProcessorStep.{processor_step}
use Rattle.spec_machine.specs.Report.{begin_lines}
use Rattle.spec_machine.specs.Ticks.{tick}
use Rattle.spec_machine.specs.Actions.{act}
use Rattle.spec_machine.specs.TickLaws.{report_faults}
use Rattle.spec_machine.specs.Machine.{run}
use Rattle.spec_machine.proofs.TickFaults.{masks_of_tasks, ticks_keep_tasks}
use Rattle.lgx_watch.specs.Kept.{KeptLines}
use Rattle.lgx_core.specs.ControllerView.{ControllerView}
use Rattle.lgx_core.specs.Represents.{RepresentsController}
use Rattle.lgx_core.specs.Gives.{Gives}
use Rattle.lgx_record.specs.declared.lines.Stamp.{Stamp}
use Rattle.lgx_record.specs.RunView.{RunView}
use Rattle.lgx_record.specs.Faults.{faults_in}
use Rattle.lgx_record.specs.Changes.{numbers_at, change_lines}
use Rattle.lgx_record.specs.EventLines.{with_event_lines, Compared}
use Rattle.lgx_record.specs.IsRunOf.{IsRunOf}
use Rattle.lgx_record.specs.Extends.{IsExtended}
use Rattle.lgx_record.proofs.FewLines.{few_defs}
use Rattle.lgx_record.proofs.Logs.{three-parts}
use Rattle.lgx_record.proofs.Taking.{has-taken, follows-more}

-- What the last part of an event does, of whatever kind it is: c is the controller before, and log is the log, which end is
-- after it. The stamp is that of the controller and of the steps.
pub record Closes (old new : RunView) (c : ControllerView) (log end : KeptLines) (at : Stamp) : Type 0 where
  pub tick : (s : State) → RepresentsController c s → at.tick ≡ s.tick
  pub step_is : at.step ≡ new.steps
  pub compared : (s : State) → RepresentsController c s → Compared log end at old.values new.values (numbers_at s.image old.places)
  pub represents : (s : State) → RepresentsController c s → RepresentsController new.controller s
  pub spent : new.controller.spent ≡ c.spent
  pub watched : new.controller.parts.image.watched ≡ c.parts.image.watched
  pub none_hit : NoneIsHit new.controller.parts.image
  pub names : new.names ≡ old.names
  pub places : new.places ≡ old.places

-- the lines of the changes, by the numbers that are kept
pub changes-kept : (log next : KeptLines) (at : Stamp) (before after now : List ℤ) → Compared log next at before after now → next ≡ with_event_lines log at (change_lines 0 before after)
changes-kept log next at before after now h = h.log ∙ ap (λ (ns : List ℤ). with_event_lines log at (change_lines 0 before ns)) (sym h.values)

-- the numbers that are kept are those of the image
pub kept-values : (old new : RunView) (c : ControllerView) (log end : KeptLines) (at : Stamp) → Closes old new c log end at → (s : State) → RepresentsController c s → new.values ≡ numbers_at s.image new.places
kept-values old new c log end at k s h = (k.compared s h).values ∙ ap (numbers_at s.image) (sym k.places)

module _ (old new : RunView) (c : ControllerView) (start first second end : KeptLines) (at : Stamp) (project : Project) (events : List Event) (r : IsRunOf old project events) (k : Closes old new c second end at) (spent : c.spent ≡ old.controller.spent + 1) (same_watched : c.parts.image.watched ≡ old.controller.parts.image.watched) where
  pub tick-taken : (report : TickReport) → Gives c report (tick (run project events)) → new.steps ≡ old.steps → first ≡ start → ((s : State) → s.tick ≡ at.tick → length s.table.defs ≤ MAX_TASKS → report.overlapped < 2 ^ length s.table.defs → second ≡ with_event_lines first at (map FaultLine (report_faults s report))) → IsExtended new start end project events (Tick ∷ [])
  tick-taken report g steps begun faulted =
      let s = run project events in
      let x = tick s in
      let same = ticks_keep_tasks s in
      let few : length x.state.table.defs ≤ MAX_TASKS = subst (λ (ds : List _). length ds ≤ MAX_TASKS) (sym same) (few_defs project r.controller.valid events) in
      let mask : report.overlapped < 2 ^ length x.state.table.defs =
      subst (λ (m : TickReport). m.overlapped < 2 ^ length x.state.table.defs) (sym g.answers)
      (subst (λ (ds : List _). x.answer.overlapped < 2 ^ length ds) (sym same) (masks_of_tasks s).1) in
      let told = faulted x.state (sym (k.tick x.state g.represents)) few mask in
      let faults = told ∙ ap (λ (m : TickReport). with_event_lines first at (map FaultLine (report_faults x.state m))) g.answers in
      follows-more old new start end project events Tick at (has-taken old project events r) (record {
        represents = k.represents x.state g.represents;
        spent = k.spent ∙ spent;
        names = k.names;
        places = k.places;
        steps = steps;
        tick = k.tick x.state g.represents;
        step_is = k.step_is;
        log = three-parts start first second end at [] (map FaultLine (report_faults x.state x.answer)) (change_lines 0 old.values new.values) begun faults (changes-kept second end at old.values new.values _ (k.compared x.state g.represents));
        values = kept-values old new c second end at k x.state g.represents;
        watched = k.watched ∙ same_watched;
        none_hit = k.none_hit;
      })

  pub step-taken : (moment : Moment) → Gives c moment (processor_step (run project events)) → new.steps ≡ old.steps + 1 → first ≡ with_event_lines start at (begin_lines moment.what) → second ≡ with_event_lines first at (map FaultLine (faults_in moment.fault)) → IsExtended new start end project events (Cpu ∷ [])
  step-taken moment g steps begun faulted =
      let x = processor_step (run project events) in
      let begins = begun ∙ ap (λ (m : Moment). with_event_lines start at (begin_lines m.what)) g.answers in
      let faults = faulted ∙ ap (λ (m : Moment). with_event_lines first at (map FaultLine (faults_in m.fault))) g.answers in
      follows-more old new start end project events Cpu at (has-taken old project events r) (record {
        represents = k.represents x.state g.represents;
        spent = k.spent ∙ spent;
        names = k.names;
        places = k.places;
        steps = steps;
        tick = k.tick x.state g.represents;
        step_is = k.step_is;
        log = three-parts start first second end at (begin_lines x.answer.what) (map FaultLine (faults_in x.answer.fault)) (change_lines 0 old.values new.values) begins faults (changes-kept second end at old.values new.values _ (k.compared x.state g.represents));
        values = kept-values old new c second end at k x.state g.represents;
        watched = k.watched ∙ same_watched;
        none_hit = k.none_hit;
      })

  pub act-taken : (lane : ℕ) (action : Action) (outcome : Outcome) → Gives c outcome (act (run project events) lane action) → new.steps ≡ old.steps → first ≡ with_event_lines start at (Reply lane outcome.reply ∷ []) → second ≡ with_event_lines first at (map FaultLine (faults_in outcome.fault)) → IsExtended new start end project events (Act lane action ∷ [])
  act-taken lane action outcome g steps answered faulted =
      let s = run project events in
      let x = act s lane action in
      let answers = answered ∙ ap (λ (o : Outcome). with_event_lines start at (Reply lane o.reply ∷ [])) g.answers in
      let faults = faulted ∙ ap (λ (o : Outcome). with_event_lines first at (map FaultLine (faults_in o.fault))) g.answers in
      follows-more old new start end project events (Act lane action) at (has-taken old project events r) (record {
        represents = k.represents x.state g.represents;
        spent = k.spent ∙ spent;
        names = k.names;
        places = k.places;
        steps = steps;
        tick = k.tick x.state g.represents;
        step_is = k.step_is;
        log = three-parts start first second end at (Reply lane x.answer.reply ∷ []) (map FaultLine (faults_in x.answer.fault)) (change_lines 0 old.values new.values) answers faults (changes-kept second end at old.values new.values _ (k.compared x.state g.represents));
        values = kept-values old new c second end at k x.state g.represents;
        watched = k.watched ∙ same_watched;
        none_hit = k.none_hit;
      })
