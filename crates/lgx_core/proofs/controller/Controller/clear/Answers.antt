-- From Faulted to Program, counted.
use Rattle.std.proofs.Common.{◌+◌}
use Rattle.spec_machine.specs.declared.event.Action.TheVariants.{Clear}
use Rattle.spec_machine.specs.Machine.{OfAction}
use Rattle.spec_machine.specs.Actions.{clear}
use Rattle.lgx_core.specs.ControllerView.{view_of}
use Rattle.lgx_core.proofs.Runs.{still}
use Rattle.lgx_core.proofs.Opened.{live, opened, room, counted, marked, going, unchanged, action-gives, action-goes, one-later}
use Rattle.lgx_core.proofs.controller.Controller.clear.Goals as goal

pub clear-requires : goal.clear-requires
clear-requires c = rw c.deref_mut.ensures.value (live c.self.inside.parts.value c.self.inside.spent c.self.invariant)

pub invariant_of-self : goal.invariant_of-self
invariant_of-self c =
    let l = room c.self.inside.parts.value c.self.inside.spent c.args.self.now c.self.view_is c.requires.room in
    still (view_of c.self.inside.parts.value c.self.inside.spent) (view_of c.clear.new.self (c.self.inside.spent + 1)) (OfAction 0 Clear c.clear.result) (action-goes c.self.inside.parts.value c.clear.new.self c.self.inside.spent l c.clear.result 0 Clear (one-later c.self.inside.parts.value c.clear.new.self c.clear.result (λ s. clear s) (rw c.deref_mut.ensures.value at c.clear.ensures.gives))) c.self.invariant

pub returns-clause-step : goal.returns-clause-step
returns-clause-step c = λ s h.
    let l = room c.self.inside.parts.value c.self.inside.spent c.args.self.now c.self.view_is c.requires.room in
    action-gives c.self.inside.parts.value c.clear.new.self c.self.inside.spent l c.clear.result (λ s. clear s) (one-later c.self.inside.parts.value c.clear.new.self c.clear.result (λ s. clear s) (rw c.deref_mut.ensures.value at c.clear.ensures.gives)) s (opened c.self.inside.parts.value c.self.inside.spent c.args.self.now c.self.view_is s h)

pub returns-clause-runs : goal.returns-clause-runs
returns-clause-runs c = λ lane.
    let l = room c.self.inside.parts.value c.self.inside.spent c.args.self.now c.self.view_is c.requires.room in
    going c.self.inside.parts.value c.self.inside.spent c.args.self.now c.self.view_is (view_of c.clear.new.self (c.self.inside.spent + 1)) (OfAction lane Clear c.clear.result) (action-goes c.self.inside.parts.value c.clear.new.self c.self.inside.spent l c.clear.result lane Clear (one-later c.self.inside.parts.value c.clear.new.self c.clear.result (λ s. clear s) (rw c.deref_mut.ensures.value at c.clear.ensures.gives)))

pub returns-clause-only_marked : goal.returns-clause-only_marked
returns-clause-only_marked c = marked c.self.inside.parts.value c.self.inside.spent c.args.self.now c.self.view_is c.clear.new.self.image (unchanged c.self.inside.parts.value.image c.clear.new.self.image (rw c.deref_mut.ensures.value at c.clear.ensures.image))

pub returns-clause-spent : goal.returns-clause-spent
returns-clause-spent c = counted c.self.inside.parts.value c.self.inside.spent c.args.self.now c.self.view_is
