use Rattle.std.proofs.Common.{◌+◌, drop, Option, ◌∙◌, sym, subst, arith}
use Rattle.spec_base.specs.Causes.{IsFaultOf}
use Rattle.spec_project.specs.declared.fault.ProjectFault.{ProjectFault}
use Rattle.spec_project.specs.Faults.{at_place, first_from}
use Rattle.spec_project.specs.Routines.{routine_fault}
use Rattle.lgx_check.specs.Scopes.{scope_of}
use Rattle.lgx_json.specs.Answers.{fault_of}
use Rattle.lgx_json.proofs.Steps.{earlier, element_step, placed}
use Rattle.lgx_project.proofs.routines.read_routines.Goals as goal

pub returns-in-Err : goal.returns-in-Err
returns-in-Err c =
    let scope = scope_of c.args.scope.now in
    let x = c.index-routines-i.result in
    let step = element_step (routine_fault scope) c.args.routines.now c.loop-i.i x (omega arith) c.index-routines-i.is in
    let rest = first_from (λ i x. at_place i (routine_fault scope x)) (c.loop-i.i + 1) (drop (c.loop-i.i + 1) c.args.routines.now) in
    let here = placed c.loop-i.i (routine_fault scope x) (fault_of c.in-Err.error) (fault_of c.at_place.result) c.in-Err.ensures c.at_place.ensures in
    subst (λ (o : Option ProjectFault). IsFaultOf o (fault_of c.at_place.result)) (sym step ∙ c.loop-i.invariant.goes) (earlier (at_place c.loop-i.i (routine_fault scope x)) rest (fault_of c.at_place.result) here)
