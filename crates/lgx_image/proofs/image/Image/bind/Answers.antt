use Rattle.spec_scan.proofs.BoundKinds.{bound_fit, bound_end}
use Rattle.lgx_image.proofs.image.Image.bind.Goals as goal

pub returns-clause-fit : goal.returns-clause-fit
returns-clause-fit c = λ op fit. bound_fit c.deref.result.now c.args.args.now c.bind_all.result op c.bind_all.ensures.value fit

pub returns-clause-ends : goal.returns-clause-ends
returns-clause-ends c = λ len ends. bound_end c.deref.result.now c.args.args.now c.bind_all.result len c.bind_all.ensures.value ends
