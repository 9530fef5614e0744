use Rattle.std.proofs.Common.{◌≡◌, Option, ap, sym, subst, ◌∙◌}
use Rattle.spec_project.specs.declared.fault.ProjectFault.{ProjectFault}
use Rattle.spec_project.specs.Faults.{or_else}
use Rattle.spec_project.specs.Places.{connections_fault, places_fault}
use Rattle.lgx_json.specs.Answers.{Passes}
use Rattle.lgx_project.specs.Passes.{places_refusal}
use Rattle.lgx_project.proofs.project.look_up.Goals as goal

pub returns-clause-fault : goal.returns-clause-fault
returns-clause-fault c =
    let p = c.args.file.now in
    let goes : places_refusal p ≡ places_fault p =
    ap (λ (o : Option ProjectFault). or_else o (or_else (connections_fault p) (places_fault p))) c.in_ok-tags.ensures.0
    ∙ ap (λ (o : Option ProjectFault). or_else o (places_fault p)) c.in_ok-conns.ensures.0 in
    subst (λ (o : Option ProjectFault). Passes o c.with_places.result) (sym goes) c.with_places.ensures.fault
