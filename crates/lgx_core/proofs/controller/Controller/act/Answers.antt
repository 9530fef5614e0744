-- An action of the parts is counted after it, if memory was there.
use Rattle.std.proofs.Common.{◌+◌, ap, ◌∙◌, subst, sym}
use Rattle.spec_machine.specs.Machine.{OfAction}
use Rattle.spec_machine.specs.Actions.{act}
use Rattle.lgx_steps.specs.declared.parts.ControllerParts.{ControllerParts}
use Rattle.lgx_core.specs.ControllerView.{view_of}
use Rattle.lgx_core.specs.Represents.{IsController}
use Rattle.lgx_core.proofs.Runs.{still}
use Rattle.lgx_core.proofs.Opened.{live, opened, room, counted, marked, going, action-gives, action-goes}
use Rattle.lgx_core.proofs.controller.Controller.act.Goals as goal

pub act-requires : goal.act-requires
act-requires c = rw c.deref_mut.ensures.value (live c.self.inside.parts.value c.self.inside.spent c.self.invariant)

pub invariant_of-self : goal.invariant_of-self
invariant_of-self c =
    let l = room c.self.inside.parts.value c.self.inside.spent c.args.self.now c.self.view_is c.requires.room in
    still (view_of c.self.inside.parts.value c.self.inside.spent) (view_of c.act.new.self (c.self.inside.spent + 1)) (OfAction c.args.lane c.args.action.now c.in-Ok.outcome) (action-goes c.self.inside.parts.value c.act.new.self c.self.inside.spent l c.in-Ok.outcome c.args.lane c.args.action.now (rw c.deref_mut.ensures.value at c.in-Ok.ensures.gives)) c.self.invariant

pub invariant_of-self-in-Err : goal.invariant_of-self-in-Err
invariant_of-self-in-Err c = subst (λ (parts : ControllerParts). IsController (view_of parts c.self.inside.spent)) (sym (rw c.deref_mut.ensures.value at c.in-Err.ensures.unchanged)) c.self.invariant

pub returns-in-Ok-clause-step : goal.returns-in-Ok-clause-step
returns-in-Ok-clause-step c = λ s h.
    let l = room c.self.inside.parts.value c.self.inside.spent c.args.self.now c.self.view_is c.requires.room in
    action-gives c.self.inside.parts.value c.act.new.self c.self.inside.spent l c.in-Ok.outcome (λ s. act s c.args.lane c.args.action.now) (rw c.deref_mut.ensures.value at c.in-Ok.ensures.gives) s (opened c.self.inside.parts.value c.self.inside.spent c.args.self.now c.self.view_is s h)

pub returns-in-Ok-clause-runs : goal.returns-in-Ok-clause-runs
returns-in-Ok-clause-runs c =
    let l = room c.self.inside.parts.value c.self.inside.spent c.args.self.now c.self.view_is c.requires.room in
    going c.self.inside.parts.value c.self.inside.spent c.args.self.now c.self.view_is (view_of c.act.new.self (c.self.inside.spent + 1)) (OfAction c.args.lane c.args.action.now c.in-Ok.outcome) (action-goes c.self.inside.parts.value c.act.new.self c.self.inside.spent l c.in-Ok.outcome c.args.lane c.args.action.now (rw c.deref_mut.ensures.value at c.in-Ok.ensures.gives))

pub returns-in-Ok-clause-spent : goal.returns-in-Ok-clause-spent
returns-in-Ok-clause-spent c = counted c.self.inside.parts.value c.self.inside.spent c.args.self.now c.self.view_is

pub returns-in-Ok-clause-only_marked : goal.returns-in-Ok-clause-only_marked
returns-in-Ok-clause-only_marked c = marked c.self.inside.parts.value c.self.inside.spent c.args.self.now c.self.view_is c.act.new.self.image (rw c.deref_mut.ensures.value at c.act.ensures.only_marked)

pub returns-in-Err-clause-unchanged : goal.returns-in-Err-clause-unchanged
returns-in-Err-clause-unchanged c = ap (λ (parts : ControllerParts). view_of parts c.self.inside.spent) (rw c.deref_mut.ensures.value at c.in-Err.ensures.unchanged) ∙ c.self.view_is

pub returns-in-Err-clause-only_marked : goal.returns-in-Err-clause-only_marked
returns-in-Err-clause-only_marked c = marked c.self.inside.parts.value c.self.inside.spent c.args.self.now c.self.view_is c.act.new.self.image (rw c.deref_mut.ensures.value at c.act.ensures.only_marked)
