use Rattle.std.proofs.Common.{List, map, length, ap, ◌∙◌, arith}
use Rattle.std.proofs.lemmas.List.{length-map}
use Rattle.spec_machine.specs.Project.{Project, Watch as MachineWatch}
use Rattle.lgx_edit.specs.declared.plant.Watch.{Watch}
use Rattle.lgx_record.proofs.FewLines.{few_watches}
use Rattle.lgx_record.proofs.Making.{same_places}
use Rattle.lgx_record.proofs.names.places_of.Goals as goal

pub returns-clause-places : goal.returns-clause-places
returns-clause-places c =
    c.in_ok-places.ensures
    ∙ ap (λ (ws : List Watch). map (λ (w : Watch). w.place) ws) c.as_slice.ensures
    ∙ same_places c.project.inside
    ∙ ap (λ (p : Project). map (λ (w : MachineWatch). w.place) p.watches) c.project.view_is

pub returns-clause-few : goal.returns-clause-few
returns-clause-few c =
    let same = ap length (returns-clause-places c) in
    let many = length-map c.args.project.now.watches (λ (w : MachineWatch). w.place) in
    let few = few_watches c.args.project.now c.law_of_validity.ensures in
    omega arith
