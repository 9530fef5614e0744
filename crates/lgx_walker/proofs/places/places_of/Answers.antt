-- By the project's own watches.
use Rattle.std.proofs.Common.{List, map, ap, ◌∙◌}
use Rattle.spec_machine.specs.Project.{Project, Watch as MachineWatch}
use Rattle.lgx_edit.specs.declared.plant.Watch.{Watch}
use Rattle.lgx_walker.proofs.Seeing.{same_places}
use Rattle.lgx_walker.proofs.places.places_of.Goals as goal

pub returns : goal.returns
returns c =
    c.of.ensures
    ∙ c.in_ok-places.ensures
    ∙ ap (λ (ws : List Watch). map (λ (w : Watch). w.place) ws) c.as_slice.ensures
    ∙ same_places c.project.inside
    ∙ ap (λ (p : Project). map (λ (w : MachineWatch). w.place) p.watches) c.project.view_is
