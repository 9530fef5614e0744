use Rattle.std.proofs.Common.{◌+◌, drop, Option, codes, ◌∙◌, sym, subst, arith}
use Rattle.spec_base.specs.Causes.{IsFaultOf}
use Rattle.spec_project.specs.declared.fault.ProjectFault.{ProjectFault}
use Rattle.spec_project.specs.Faults.{at_place, first_at, first_from, in_field}
use Rattle.spec_project.specs.Routines.{routine_fault}
use Rattle.lgx_json.specs.Answers.{fault_of}
use Rattle.lgx_json.proofs.Steps.{earlier, placed}
use Rattle.lgx_project.specs.Programs.{program_fault_in, scope_in}
use Rattle.lgx_project.proofs.Texts.{next_fault}
use Rattle.lgx_project.proofs.programs.read_programs.Goals as goal

pub returns-in-Err : goal.returns-in-Err
returns-in-Err c =
    let tags = c.args.tags.now.declarations in
    let tasks = c.args.tasks.now in
    let q = c.index-programs-i.result in
    let own = in_field (codes "routines") (first_at (routine_fault (scope_in tags tasks c.loop-i.i q)) q.routines) in
    let rest = first_from (program_fault_in tags tasks) (c.loop-i.i + 1) (drop (c.loop-i.i + 1) c.args.programs.now) in
    let step = next_fault tags tasks c.args.programs.now c.loop-i.i q (omega arith) c.index-programs-i.is in
    let here = placed c.loop-i.i own (fault_of c.in-Err.error) (fault_of c.at_place.result) c.in-Err.ensures c.at_place.ensures in
    subst (λ (o : Option ProjectFault). IsFaultOf o (fault_of c.at_place.result)) (sym step ∙ c.loop-i.invariant.goes) (earlier (at_place c.loop-i.i own) rest (fault_of c.at_place.result) here)
