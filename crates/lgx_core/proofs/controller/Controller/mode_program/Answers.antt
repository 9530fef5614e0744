-- The change to Program, counted.
use Rattle.std.proofs.Common.{◌+◌}
use Rattle.spec_machine.specs.declared.event.Action.TheVariants.{ModeProgram}
use Rattle.spec_machine.specs.Machine.{OfAction}
use Rattle.spec_machine.specs.Actions.{mode_program}
use Rattle.lgx_core.specs.ControllerView.{view_of}
use Rattle.lgx_core.proofs.Runs.{still}
use Rattle.lgx_core.proofs.Opened.{live, opened, room, counted, marked, going, unchanged, action-gives, action-goes, one-later}
use Rattle.lgx_core.proofs.controller.Controller.mode_program.Goals as goal

pub mode_program-requires : goal.mode_program-requires
mode_program-requires c = rw c.deref_mut.ensures.value (live c.self.inside.parts.value c.self.inside.spent c.self.invariant)

pub invariant_of-self : goal.invariant_of-self
invariant_of-self c =
    let l = room c.self.inside.parts.value c.self.inside.spent c.args.self.now c.self.view_is c.requires.room in
    still (view_of c.self.inside.parts.value c.self.inside.spent) (view_of c.mode_program.new.self (c.self.inside.spent + 1)) (OfAction 0 ModeProgram c.mode_program.result) (action-goes c.self.inside.parts.value c.mode_program.new.self c.self.inside.spent l c.mode_program.result 0 ModeProgram (one-later c.self.inside.parts.value c.mode_program.new.self c.mode_program.result (λ s. mode_program s) (rw c.deref_mut.ensures.value at c.mode_program.ensures.gives))) c.self.invariant

pub returns-clause-step : goal.returns-clause-step
returns-clause-step c = λ s h.
    let l = room c.self.inside.parts.value c.self.inside.spent c.args.self.now c.self.view_is c.requires.room in
    action-gives c.self.inside.parts.value c.mode_program.new.self c.self.inside.spent l c.mode_program.result (λ s. mode_program s) (one-later c.self.inside.parts.value c.mode_program.new.self c.mode_program.result (λ s. mode_program s) (rw c.deref_mut.ensures.value at c.mode_program.ensures.gives)) s (opened c.self.inside.parts.value c.self.inside.spent c.args.self.now c.self.view_is s h)

pub returns-clause-runs : goal.returns-clause-runs
returns-clause-runs c = λ lane.
    let l = room c.self.inside.parts.value c.self.inside.spent c.args.self.now c.self.view_is c.requires.room in
    going c.self.inside.parts.value c.self.inside.spent c.args.self.now c.self.view_is (view_of c.mode_program.new.self (c.self.inside.spent + 1)) (OfAction lane ModeProgram c.mode_program.result) (action-goes c.self.inside.parts.value c.mode_program.new.self c.self.inside.spent l c.mode_program.result lane ModeProgram (one-later c.self.inside.parts.value c.mode_program.new.self c.mode_program.result (λ s. mode_program s) (rw c.deref_mut.ensures.value at c.mode_program.ensures.gives)))

pub returns-clause-only_marked : goal.returns-clause-only_marked
returns-clause-only_marked c = marked c.self.inside.parts.value c.self.inside.spent c.args.self.now c.self.view_is c.mode_program.new.self.image (unchanged c.self.inside.parts.value.image c.mode_program.new.self.image (rw c.deref_mut.ensures.value at c.mode_program.ensures.image))

pub returns-clause-spent : goal.returns-clause-spent
returns-clause-spent c = counted c.self.inside.parts.value c.self.inside.spent c.args.self.now c.self.view_is
