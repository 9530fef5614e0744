-- A tick of the parts, counted.
use Rattle.std.proofs.Common.{◌+◌}
use Rattle.spec_machine.specs.Machine.{OfTick}
use Rattle.lgx_core.specs.ControllerView.{view_of}
use Rattle.lgx_core.proofs.Runs.{still}
use Rattle.lgx_core.proofs.Opened.{with-room, opened, room, counted, marked, going, unchanged, tick-gives, tick-goes}
use Rattle.lgx_core.proofs.controller.Controller.tick.Goals as goal

pub tick-requires : goal.tick-requires
tick-requires c = rw c.deref_mut.ensures.value (with-room c.self.inside.parts.value c.self.inside.spent c.self.invariant (room c.self.inside.parts.value c.self.inside.spent c.args.self.now c.self.view_is c.requires.room))

pub invariant_of-self : goal.invariant_of-self
invariant_of-self c =
    let l = room c.self.inside.parts.value c.self.inside.spent c.args.self.now c.self.view_is c.requires.room in
    still (view_of c.self.inside.parts.value c.self.inside.spent) (view_of c.tick.new.self (c.self.inside.spent + 1)) (OfTick c.tick.result) (tick-goes c.self.inside.parts.value c.tick.new.self c.self.inside.spent l c.tick.result (rw c.deref_mut.ensures.value at c.tick.ensures.gives)) c.self.invariant

pub returns-clause-step : goal.returns-clause-step
returns-clause-step c = λ s h.
    let l = room c.self.inside.parts.value c.self.inside.spent c.args.self.now c.self.view_is c.requires.room in
    tick-gives c.self.inside.parts.value c.tick.new.self c.self.inside.spent l c.tick.result (rw c.deref_mut.ensures.value at c.tick.ensures.gives) s (opened c.self.inside.parts.value c.self.inside.spent c.args.self.now c.self.view_is s h)

pub returns-clause-runs : goal.returns-clause-runs
returns-clause-runs c =
    let l = room c.self.inside.parts.value c.self.inside.spent c.args.self.now c.self.view_is c.requires.room in
    going c.self.inside.parts.value c.self.inside.spent c.args.self.now c.self.view_is (view_of c.tick.new.self (c.self.inside.spent + 1)) (OfTick c.tick.result) (tick-goes c.self.inside.parts.value c.tick.new.self c.self.inside.spent l c.tick.result (rw c.deref_mut.ensures.value at c.tick.ensures.gives))

pub returns-clause-only_marked : goal.returns-clause-only_marked
returns-clause-only_marked c = marked c.self.inside.parts.value c.self.inside.spent c.args.self.now c.self.view_is c.tick.new.self.image (unchanged c.self.inside.parts.value.image c.tick.new.self.image (rw c.deref_mut.ensures.value at c.tick.ensures.image))

pub returns-clause-spent : goal.returns-clause-spent
returns-clause-spent c = counted c.self.inside.parts.value c.self.inside.spent c.args.self.now c.self.view_is
