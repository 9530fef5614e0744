use Rattle.std.proofs.Common.{◌≡◌, Some, ap, subst}
use Rattle.lgx_steps.specs.PartsView.{view_of}
use Rattle.spec_machine.specs.declared.answer.What.TheVariants as what
use Rattle.spec_machine.specs.declared.answer.Mark.TheVariants as mark
use Rattle.spec_tables.specs.declared.fault.Fault.{Fault}
use Rattle.spec_tables.specs.declared.fault.Severity.TheVariants.{Major}
use Rattle.spec_machine.specs.Releases.{program_fault, major_fault}
use Rattle.lgx_steps.specs.Represents.{RepresentsState}
use Rattle.lgx_steps.proofs.States.{later}
use Rattle.lgx_steps.proofs.parts.ControllerParts.major.Goals as goal

pub returns-clause-gives : goal.returns-clause-gives
returns-clause-gives c = λ k s h.
    let f : Fault = program_fault s Major c.args.code c.args.t c.args.n in
    let e : c.program_fault-fault.result ≡ f = c.program_fault-fault.ensures s h.tick in
    let v = view_of c.major_fault.new.self in
    record {
      answers = ap (λ (x : Fault). record { what = what.Ran c.args.t c.args.n; mark = mark.Plain; fault = Some x }) e;
      represents = later k v (major_fault f s) (subst (λ (x : Fault). RepresentsState k v (major_fault x s)) e (c.major_fault.ensures.represents k s h));
    }
