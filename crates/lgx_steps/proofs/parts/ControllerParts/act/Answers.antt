use Rattle.std.proofs.Common.{◌+◌, sym, subst, arith}
use Rattle.lgx_steps.specs.PartsView.{view_of}
use mir.Val.{SFits}
use Rattle.std.proofs.Common.{ℤ, w32, to_z, of_z}
use Rattle.std.proofs.lemmas.Int.{to_z-of_z}
use Rattle.spec_machine.specs.declared.event.Action.TheVariants as action
use Rattle.std.specs.Prelude.{IfOk}
use Rattle.spec_machine.specs.declared.event.Action.{Action}
use Rattle.spec_machine.specs.Actions.{act}
use Rattle.lgx_steps.specs.Gives.{ViewGives}
use Rattle.lgx_steps.proofs.AcceptGives.{acts, gives-out}
use Rattle.lgx_steps.proofs.parts.ControllerParts.act.Goals as goal

pub returns-in-WordIn-clause-gives : goal.returns-in-WordIn-clause-gives
returns-in-WordIn-clause-gives c = λ n s h.
    let v = view_of c.word_in.new.self in
    let k = c.in-WordIn in
    let f : SFits w32 k.value = record { sfits = omega arith } in
    acts n v s c.args.lane c.word_in.result c.args.action.now (action.WordIn k.conn k.word k.value) k.is
    (subst (λ (z : ℤ). ViewGives n v c.word_in.result (act s c.args.lane (action.WordIn k.conn k.word z))) (to_z-of_z w32 k.value f) (c.word_in.ensures.gives n s h))

pub returns-in-Test-clause-gives : goal.returns-in-Test-clause-gives
returns-in-Test-clause-gives c = λ n s h. acts n (view_of c.test.new.self) s c.args.lane c.test.result c.args.action.now _ c.in-Test.is (c.test.ensures.gives n s h)

pub returns-in-Untest-clause-gives : goal.returns-in-Untest-clause-gives
returns-in-Untest-clause-gives c = λ n s h. acts n (view_of c.untest.new.self) s c.args.lane c.untest.result c.args.action.now _ c.in-Untest.is (c.untest.ensures.gives n s h)

pub returns-in-Assemble-clause-gives : goal.returns-in-Assemble-clause-gives
returns-in-Assemble-clause-gives c = λ n s h. acts n (view_of c.assemble.new.self) s c.args.lane c.assemble.result c.args.action.now _ c.in-Assemble.is (c.assemble.ensures.gives n s h)

pub returns-in-Cancel-clause-gives : goal.returns-in-Cancel-clause-gives
returns-in-Cancel-clause-gives c = λ n s h. acts n (view_of c.cancel.new.self) s c.args.lane c.cancel.result c.args.action.now _ c.in-Cancel.is (c.cancel.ensures.gives n s h)

pub returns-in-ForceInstall-clause-gives : goal.returns-in-ForceInstall-clause-gives
returns-in-ForceInstall-clause-gives c = λ n s h.
    let v = view_of c.install_force.new.self in
    let k = c.in-ForceInstall in
    let f : SFits w32 k.value = record { sfits = omega arith } in
    let g : SFits w32 k.mask = record { sfits = omega arith } in
    acts n v s c.args.lane c.install_force.result c.args.action.now (action.ForceInstall k.conn k.word k.mask k.value) k.is
    (subst (λ (z : ℤ). ViewGives n v c.install_force.result (act s c.args.lane (action.ForceInstall k.conn k.word z k.value))) (to_z-of_z w32 k.mask g)
    (subst (λ (z : ℤ). ViewGives n v c.install_force.result (act s c.args.lane (action.ForceInstall k.conn k.word (to_z w32 (of_z w32 k.mask)) z))) (to_z-of_z w32 k.value f) (c.install_force.ensures.gives n s h)))

pub returns-in-ForceEnable-clause-gives : goal.returns-in-ForceEnable-clause-gives
returns-in-ForceEnable-clause-gives c = λ n s h. acts n (view_of c.enable_forces.new.self) s c.args.lane c.enable_forces.result c.args.action.now _ c.in-ForceEnable.is (c.enable_forces.ensures.gives n s h)

pub returns-in-ForceDisable-clause-gives : goal.returns-in-ForceDisable-clause-gives
returns-in-ForceDisable-clause-gives c = λ n s h. acts n (view_of c.disable_forces.new.self) s c.args.lane c.disable_forces.result c.args.action.now _ c.in-ForceDisable.is (c.disable_forces.ensures.gives n s h)

pub returns-in-ForceRemove-clause-gives : goal.returns-in-ForceRemove-clause-gives
returns-in-ForceRemove-clause-gives c = λ n s h. acts n (view_of c.remove_forces.new.self) s c.args.lane c.remove_forces.result c.args.action.now _ c.in-ForceRemove.is (c.remove_forces.ensures.gives n s h)

pub returns-in-ModeRun-clause-gives : goal.returns-in-ModeRun-clause-gives
returns-in-ModeRun-clause-gives c = λ n s h. acts n (view_of c.mode_run.new.self) s c.args.lane c.mode_run.result c.args.action.now _ c.in-ModeRun.is (c.mode_run.ensures.gives n s h)

pub returns-in-ModeProgram-clause-gives : goal.returns-in-ModeProgram-clause-gives
returns-in-ModeProgram-clause-gives c = λ n s h. acts n (view_of c.mode_program.new.self) s c.args.lane c.mode_program.result c.args.action.now _ c.in-ModeProgram.is (c.mode_program.ensures.gives n s h)

pub returns-in-Clear-clause-gives : goal.returns-in-Clear-clause-gives
returns-in-Clear-clause-gives c = λ n s h. acts n (view_of c.clear.new.self) s c.args.lane c.clear.result c.args.action.now _ c.in-Clear.is (c.clear.ensures.gives n s h)

pub returns-in-WordOut-clause-gives : goal.returns-in-WordOut-clause-gives
returns-in-WordOut-clause-gives c = λ n s h.
    acts n (view_of c.args.self.now) s c.args.lane c.replied.result c.args.action.now _ c.in-WordOut.is
    (gives-out n (view_of c.args.self.now) s h c.in-WordOut.conn c.in-WordOut.word c.word_out.result c.replied.result c.replied.ensures (c.word_out.ensures n s h))

pub returns-in-Accept-clause-gives : goal.returns-in-Accept-clause-gives
returns-in-Accept-clause-gives c = λ n s h.
    subst (λ (a : Action). IfOk c.accept.result (λ o. ViewGives (n + 1) (view_of c.accept.new.self) o (act s c.args.lane a))) (sym c.in-Accept.is) (c.accept.ensures.gives n s h)
