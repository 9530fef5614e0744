-- Its parts represent the start of the project.
use Rattle.spec_laws.proofs.Lawful.{runs_are_lawful}
use Rattle.lgx_core.proofs.Opened.{begins, begun}
use Rattle.lgx_core.proofs.controller.Controller.new.Goals as goal

pub invariant_of-result : goal.invariant_of-result
invariant_of-result c = rw c.in_ok-boxed.ensures.ok (begun c.in_ok-parts.parts c.args.project c.in_ok-parts.ensures.valid c.in_ok-parts.ensures.represents)

pub returns-clause-stands : goal.returns-clause-stands
returns-clause-stands c = rw c.in_ok-boxed.ensures.ok (begins c.in_ok-parts.parts c.args.project c.in_ok-parts.ensures.valid c.in_ok-parts.ensures.represents)

pub returns-clause-laws : goal.returns-clause-laws
returns-clause-laws c = runs_are_lawful c.args.project c.in_ok-parts.ensures.valid
