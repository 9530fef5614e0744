-- A stretch of the parts, counted.
use Rattle.std.proofs.Common.{◌+◌, arith}
use Rattle.lgx_core.specs.ControllerView.{view_of}
use Rattle.lgx_core.proofs.Opened.{with-room-for, opened, marked}
use Rattle.lgx_core.proofs.Stretched.{still-by, stretch-gives, stretch-goes, has-room, counted-by, going-by}
use Rattle.lgx_core.proofs.controller.Controller.stretch.Goals as goal

pub stretch-made-requires-clause-room : goal.stretch-made-requires-clause-room
stretch-made-requires-clause-room c =
    let l = has-room c.self.inside.parts.value c.self.inside.spent c.args.self.now c.self.view_is c.args.most c.args.most (omega arith) c.requires.room in
    rw c.deref_mut.ensures.value (with-room-for c.self.inside.parts.value c.self.inside.spent c.args.most c.self.invariant l)

pub invariant_of-self : goal.invariant_of-self
invariant_of-self c =
    let x = c.stretch-made.result in
    let l = has-room c.self.inside.parts.value c.self.inside.spent c.args.self.now c.self.view_is x.steps c.args.most c.stretch-made.ensures.most c.requires.room in
    still-by (view_of c.self.inside.parts.value c.self.inside.spent) (view_of c.stretch-made.new.self (c.self.inside.spent + x.steps)) x (stretch-goes c.self.inside.parts.value c.stretch-made.new.self c.self.inside.spent c.stretch-made.new.begins x l (rw c.deref_mut.ensures.value at c.stretch-made.ensures.gives) c.stretch-made.ensures.some) c.self.invariant

pub returns-clause-step : goal.returns-clause-step
returns-clause-step c = λ s h.
    let x = c.stretch-made.result in
    let l = has-room c.self.inside.parts.value c.self.inside.spent c.args.self.now c.self.view_is x.steps c.args.most c.stretch-made.ensures.most c.requires.room in
    stretch-gives c.self.inside.parts.value c.stretch-made.new.self c.self.inside.spent c.stretch-made.new.begins x l (rw c.deref_mut.ensures.value at c.stretch-made.ensures.gives) s (opened c.self.inside.parts.value c.self.inside.spent c.args.self.now c.self.view_is s h)

pub returns-clause-runs : goal.returns-clause-runs
returns-clause-runs c =
    let x = c.stretch-made.result in
    let l = has-room c.self.inside.parts.value c.self.inside.spent c.args.self.now c.self.view_is x.steps c.args.most c.stretch-made.ensures.most c.requires.room in
    going-by c.self.inside.parts.value c.self.inside.spent c.args.self.now c.self.view_is (view_of c.stretch-made.new.self (c.self.inside.spent + x.steps)) x (stretch-goes c.self.inside.parts.value c.stretch-made.new.self c.self.inside.spent c.stretch-made.new.begins x l (rw c.deref_mut.ensures.value at c.stretch-made.ensures.gives) c.stretch-made.ensures.some)

pub returns-clause-only_marked : goal.returns-clause-only_marked
returns-clause-only_marked c = marked c.self.inside.parts.value c.self.inside.spent c.args.self.now c.self.view_is c.stretch-made.new.self.image (rw c.deref_mut.ensures.value at c.stretch-made.ensures.only_marked)

pub returns-clause-spent : goal.returns-clause-spent
returns-clause-spent c = counted-by c.self.inside.parts.value c.self.inside.spent c.args.self.now c.self.view_is c.stretch-made.result.steps
