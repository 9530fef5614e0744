use Rattle.std.proofs.Common.{◌≡◌, Option, ap, sym, subst, ◌∙◌}
use Rattle.spec_project.specs.declared.fault.ProjectFault.{ProjectFault}
use Rattle.spec_project.specs.Faults.{or_else}
use Rattle.spec_project.specs.Projects.{refusal}
use Rattle.spec_project.specs.Routines.{routines_fault}
use Rattle.lgx_json.specs.Answers.{Passes}
use Rattle.lgx_project.proofs.Passes.{rungs_last}
use Rattle.lgx_project.proofs.project.read_parts.Goals as goal

pub returns-clause-fault : goal.returns-clause-fault
returns-clause-fault c =
    let p = c.args.file.now in
    let goes : refusal p ≡ routines_fault p = rungs_last p ∙ ap (λ (o : Option ProjectFault). or_else o (routines_fault p)) c.in_ok-found.ensures.fault in
    subst (λ (o : Option ProjectFault). Passes o c.with_texts.result) (sym goes) c.with_texts.ensures.fault
