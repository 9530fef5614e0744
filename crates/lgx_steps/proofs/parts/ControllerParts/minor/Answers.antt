use Rattle.std.proofs.Common.{◌≡◌, [], ◌∷◌, ◌++◌, Some, ap, ◌∙◌}
use Rattle.lgx_steps.specs.PartsView.{view_of}
use Rattle.spec_machine.specs.declared.answer.What.TheVariants as what
use Rattle.spec_machine.specs.declared.answer.Mark.TheVariants as mark
use Rattle.spec_tables.specs.declared.fault.TheConstants.{OVERFLOW}
use Rattle.spec_tables.specs.declared.fault.Fault.{Fault}
use Rattle.spec_tables.specs.declared.fault.Severity.TheVariants.{Minor}
use Rattle.spec_machine.specs.State.{with_fault}
use Rattle.spec_machine.specs.Releases.{program_fault}
use Rattle.lgx_fault.specs.Kept.{last_faults}
use Rattle.lgx_steps.proofs.States.{later, with-noted}
use Rattle.lgx_steps.proofs.parts.ControllerParts.minor.Goals as goal

pub returns-clause-gives : goal.returns-clause-gives
returns-clause-gives c = λ k s h.
    let f : Fault = program_fault s Minor OVERFLOW c.args.t c.args.n in
    let e : c.program_fault-fault.result ≡ f = c.program_fault-fault.ensures s h.tick in
    record {
      answers = ap (λ (x : Fault). record { what = what.Ran c.args.t c.args.n; mark = mark.Plain; fault = Some x }) e;
      represents = later k _ (with_fault f s) (with-noted k (view_of c.args.self.now) s h c.note.new.self f (c.note.ensures.holds s.faults h.faults ∙ ap (λ (x : Fault). last_faults (s.faults ++ x ∷ [])) e));
    }
