-- A word in, counted.
use Rattle.std.proofs.Common.{◌+◌, ℕ, subst, w32}
use Rattle.std.specs.Prelude.{ℤ}
use Rattle.std.proofs.lemmas.Int.{to_z-of_z}
use Rattle.spec_machine.specs.State.{State}
use Rattle.lgx_steps.specs.PartsView.{view_of as parts_of}
use Rattle.lgx_steps.specs.Represents.{RepresentsState}
use Rattle.lgx_steps.specs.Gives.{ViewGives}
use Rattle.spec_machine.specs.declared.event.Action.TheVariants.{WordIn}
use Rattle.spec_machine.specs.Machine.{OfAction}
use Rattle.spec_machine.specs.Actions.{word_in}
use Rattle.lgx_core.specs.ControllerView.{view_of}
use Rattle.lgx_core.proofs.Runs.{still}
use Rattle.lgx_core.proofs.Opened.{live, opened, room, counted, marked, going, action-gives, action-goes, one-later}
use Rattle.lgx_core.proofs.controller.Controller.word_in.Goals as goal

pub word_in-requires : goal.word_in-requires
word_in-requires c = rw c.deref_mut.ensures.value (live c.self.inside.parts.value c.self.inside.spent c.self.invariant)

pub invariant_of-self : goal.invariant_of-self
invariant_of-self c =
    let gives : (n : ℕ) (s : State) → RepresentsState n (parts_of c.self.inside.parts.value) s → ViewGives n (parts_of c.word_in.new.self) c.word_in.result (word_in s c.args.conn.now c.args.word c.args.value) =
    λ n s h. subst (λ (v : ℤ). ViewGives n (parts_of c.word_in.new.self) c.word_in.result (word_in s c.args.conn.now c.args.word v)) (to_z-of_z w32 c.args.value c.ranges.value) ((rw c.deref_mut.ensures.value at c.word_in.ensures.gives) n s h) in
    let l = room c.self.inside.parts.value c.self.inside.spent c.args.self.now c.self.view_is c.requires.room in
    still (view_of c.self.inside.parts.value c.self.inside.spent) (view_of c.word_in.new.self (c.self.inside.spent + 1)) (OfAction 0 (WordIn c.args.conn.now c.args.word c.args.value) c.word_in.result) (action-goes c.self.inside.parts.value c.word_in.new.self c.self.inside.spent l c.word_in.result 0 (WordIn c.args.conn.now c.args.word c.args.value) (one-later c.self.inside.parts.value c.word_in.new.self c.word_in.result (λ s. word_in s c.args.conn.now c.args.word c.args.value) gives)) c.self.invariant

pub returns-clause-step : goal.returns-clause-step
returns-clause-step c = λ s h.
    let gives : (n : ℕ) (s : State) → RepresentsState n (parts_of c.self.inside.parts.value) s → ViewGives n (parts_of c.word_in.new.self) c.word_in.result (word_in s c.args.conn.now c.args.word c.args.value) =
    λ n s h. subst (λ (v : ℤ). ViewGives n (parts_of c.word_in.new.self) c.word_in.result (word_in s c.args.conn.now c.args.word v)) (to_z-of_z w32 c.args.value c.ranges.value) ((rw c.deref_mut.ensures.value at c.word_in.ensures.gives) n s h) in
    let l = room c.self.inside.parts.value c.self.inside.spent c.args.self.now c.self.view_is c.requires.room in
    action-gives c.self.inside.parts.value c.word_in.new.self c.self.inside.spent l c.word_in.result (λ s. word_in s c.args.conn.now c.args.word c.args.value) (one-later c.self.inside.parts.value c.word_in.new.self c.word_in.result (λ s. word_in s c.args.conn.now c.args.word c.args.value) gives) s (opened c.self.inside.parts.value c.self.inside.spent c.args.self.now c.self.view_is s h)

pub returns-clause-runs : goal.returns-clause-runs
returns-clause-runs c = λ lane.
    let gives : (n : ℕ) (s : State) → RepresentsState n (parts_of c.self.inside.parts.value) s → ViewGives n (parts_of c.word_in.new.self) c.word_in.result (word_in s c.args.conn.now c.args.word c.args.value) =
    λ n s h. subst (λ (v : ℤ). ViewGives n (parts_of c.word_in.new.self) c.word_in.result (word_in s c.args.conn.now c.args.word v)) (to_z-of_z w32 c.args.value c.ranges.value) ((rw c.deref_mut.ensures.value at c.word_in.ensures.gives) n s h) in
    let l = room c.self.inside.parts.value c.self.inside.spent c.args.self.now c.self.view_is c.requires.room in
    going c.self.inside.parts.value c.self.inside.spent c.args.self.now c.self.view_is (view_of c.word_in.new.self (c.self.inside.spent + 1)) (OfAction lane (WordIn c.args.conn.now c.args.word c.args.value) c.word_in.result) (action-goes c.self.inside.parts.value c.word_in.new.self c.self.inside.spent l c.word_in.result lane (WordIn c.args.conn.now c.args.word c.args.value) (one-later c.self.inside.parts.value c.word_in.new.self c.word_in.result (λ s. word_in s c.args.conn.now c.args.word c.args.value) gives))

pub returns-clause-only_marked : goal.returns-clause-only_marked
returns-clause-only_marked c = marked c.self.inside.parts.value c.self.inside.spent c.args.self.now c.self.view_is c.word_in.new.self.image (rw c.deref_mut.ensures.value at c.word_in.ensures.only_marked)

pub returns-clause-spent : goal.returns-clause-spent
returns-clause-spent c = counted c.self.inside.parts.value c.self.inside.spent c.args.self.now c.self.view_is
