-- The change to Run, counted.
use Rattle.std.proofs.Common.{◌+◌}
use Rattle.spec_machine.specs.declared.event.Action.TheVariants.{ModeRun}
use Rattle.spec_machine.specs.Machine.{OfAction}
use Rattle.spec_machine.specs.Actions.{mode_run}
use Rattle.lgx_core.specs.ControllerView.{view_of}
use Rattle.lgx_core.proofs.Runs.{still}
use Rattle.lgx_core.proofs.Opened.{live, opened, room, counted, marked, going, action-gives, action-goes, one-later}
use Rattle.lgx_core.proofs.controller.Controller.mode_run.Goals as goal

pub mode_run-requires : goal.mode_run-requires
mode_run-requires c = rw c.deref_mut.ensures.value (live c.self.inside.parts.value c.self.inside.spent c.self.invariant)

pub invariant_of-self : goal.invariant_of-self
invariant_of-self c =
    let l = room c.self.inside.parts.value c.self.inside.spent c.args.self.now c.self.view_is c.requires.room in
    still (view_of c.self.inside.parts.value c.self.inside.spent) (view_of c.mode_run.new.self (c.self.inside.spent + 1)) (OfAction 0 ModeRun c.mode_run.result) (action-goes c.self.inside.parts.value c.mode_run.new.self c.self.inside.spent l c.mode_run.result 0 ModeRun (one-later c.self.inside.parts.value c.mode_run.new.self c.mode_run.result (λ s. mode_run s) (rw c.deref_mut.ensures.value at c.mode_run.ensures.gives))) c.self.invariant

pub returns-clause-step : goal.returns-clause-step
returns-clause-step c = λ s h.
    let l = room c.self.inside.parts.value c.self.inside.spent c.args.self.now c.self.view_is c.requires.room in
    action-gives c.self.inside.parts.value c.mode_run.new.self c.self.inside.spent l c.mode_run.result (λ s. mode_run s) (one-later c.self.inside.parts.value c.mode_run.new.self c.mode_run.result (λ s. mode_run s) (rw c.deref_mut.ensures.value at c.mode_run.ensures.gives)) s (opened c.self.inside.parts.value c.self.inside.spent c.args.self.now c.self.view_is s h)

pub returns-clause-runs : goal.returns-clause-runs
returns-clause-runs c = λ lane.
    let l = room c.self.inside.parts.value c.self.inside.spent c.args.self.now c.self.view_is c.requires.room in
    going c.self.inside.parts.value c.self.inside.spent c.args.self.now c.self.view_is (view_of c.mode_run.new.self (c.self.inside.spent + 1)) (OfAction lane ModeRun c.mode_run.result) (action-goes c.self.inside.parts.value c.mode_run.new.self c.self.inside.spent l c.mode_run.result lane ModeRun (one-later c.self.inside.parts.value c.mode_run.new.self c.mode_run.result (λ s. mode_run s) (rw c.deref_mut.ensures.value at c.mode_run.ensures.gives)))

pub returns-clause-only_marked : goal.returns-clause-only_marked
returns-clause-only_marked c = marked c.self.inside.parts.value c.self.inside.spent c.args.self.now c.self.view_is c.mode_run.new.self.image (rw c.deref_mut.ensures.value at c.mode_run.ensures.only_marked)

pub returns-clause-spent : goal.returns-clause-spent
returns-clause-spent c = counted c.self.inside.parts.value c.self.inside.spent c.args.self.now c.self.view_is
