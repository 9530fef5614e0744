use Rattle.std.proofs.Common.{List, Option, ap, sym, subst}
use Rattle.lgx_tags.specs.Tables.{Table}
use Rattle.spec_project.specs.declared.fault.ProjectFault.{ProjectFault}
use Rattle.spec_project.specs.Routines.{routines_fault}
use Rattle.lgx_edit.specs.declared.texts.ProgramText.{ProgramText}
use Rattle.lgx_json.specs.Answers.{Reads, fault_of}
use Rattle.lgx_project.proofs.Texts.{all_counted, all_read, program_refused}
use Rattle.lgx_project.proofs.project.read_texts.Goals as goal

pub returns-in-Err : goal.returns-in-Err
returns-in-Err c =
    program_refused c.args.file.now c.args.tags.now.declarations c.args.tasks.now c.as_slice.result.now (fault_of c.in-Err.error) (fault_of c.in_field.result) (ap (λ (t : Table). t.declarations) c.requires.tags) c.requires.tasks c.as_slice.ensures c.in-Err.ensures c.in_field.ensures

pub returns-in-Ok : goal.returns-in-Ok
returns-in-Ok c =
    let p = c.args.file.now in
    let tags = ap (λ (t : Table). t.declarations) c.requires.tags in
    let goes = all_counted p c.args.tags.now.declarations c.args.tasks.now c.as_slice.result.now c.in-Ok.texts tags c.requires.tasks c.as_slice.ensures c.in-Ok.ensures.0 c.in-Ok.ensures.1 in
    let made = all_read p c.args.tags.now.declarations c.args.tasks.now c.as_slice.result.now c.in-Ok.texts tags c.requires.tasks c.as_slice.ensures c.in-Ok.ensures.1 in
    subst (λ (ts : List ProgramText). Reads (routines_fault p) ts c.refuse_count.result) made
    (subst (λ (o : Option ProjectFault). Reads o c.in-Ok.texts c.refuse_count.result) (sym goes) c.refuse_count.ensures)
