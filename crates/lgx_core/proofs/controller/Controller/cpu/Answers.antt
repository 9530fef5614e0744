-- A processor step of the parts, counted.
use Rattle.std.proofs.Common.{◌+◌}
use Rattle.spec_machine.specs.Machine.{OfStep}
use Rattle.lgx_core.specs.ControllerView.{view_of}
use Rattle.lgx_core.proofs.Runs.{still}
use Rattle.lgx_core.proofs.Opened.{live, opened, room, counted, marked, going, step-gives, step-goes}
use Rattle.lgx_core.proofs.controller.Controller.cpu.Goals as goal

pub cpu-requires : goal.cpu-requires
cpu-requires c = rw c.deref_mut.ensures.value (live c.self.inside.parts.value c.self.inside.spent c.self.invariant)

pub invariant_of-self : goal.invariant_of-self
invariant_of-self c =
    let l = room c.self.inside.parts.value c.self.inside.spent c.args.self.now c.self.view_is c.requires.room in
    still (view_of c.self.inside.parts.value c.self.inside.spent) (view_of c.cpu.new.self (c.self.inside.spent + 1)) (OfStep c.cpu.result) (step-goes c.self.inside.parts.value c.cpu.new.self c.self.inside.spent l c.cpu.result (rw c.deref_mut.ensures.value at c.cpu.ensures.gives)) c.self.invariant

pub returns-clause-step : goal.returns-clause-step
returns-clause-step c = λ s h.
    let l = room c.self.inside.parts.value c.self.inside.spent c.args.self.now c.self.view_is c.requires.room in
    step-gives c.self.inside.parts.value c.cpu.new.self c.self.inside.spent l c.cpu.result (rw c.deref_mut.ensures.value at c.cpu.ensures.gives) s (opened c.self.inside.parts.value c.self.inside.spent c.args.self.now c.self.view_is s h)

pub returns-clause-runs : goal.returns-clause-runs
returns-clause-runs c =
    let l = room c.self.inside.parts.value c.self.inside.spent c.args.self.now c.self.view_is c.requires.room in
    going c.self.inside.parts.value c.self.inside.spent c.args.self.now c.self.view_is (view_of c.cpu.new.self (c.self.inside.spent + 1)) (OfStep c.cpu.result) (step-goes c.self.inside.parts.value c.cpu.new.self c.self.inside.spent l c.cpu.result (rw c.deref_mut.ensures.value at c.cpu.ensures.gives))

pub returns-clause-only_marked : goal.returns-clause-only_marked
returns-clause-only_marked c = marked c.self.inside.parts.value c.self.inside.spent c.args.self.now c.self.view_is c.cpu.new.self.image (rw c.deref_mut.ensures.value at c.cpu.ensures.only_marked)

pub returns-clause-spent : goal.returns-clause-spent
returns-clause-spent c = counted c.self.inside.parts.value c.self.inside.spent c.args.self.now c.self.view_is
