-- From the project's start.
use Rattle.std.proofs.Common.{map, ap, ◌∙◌}
use Rattle.std.proofs.lemmas.Result.{IfOk-weaker}
use Rattle.spec_machine.specs.Project.{Project, Watch}
use Rattle.lgx_walker.proofs.answer.tell.Goals as goal

pub tell_from-requires-clause-start : goal.tell_from-requires-clause-start
tell_from-requires-clause-start g c = (
  c.args.project,
  record {
    places_are = c.in_ok-places.ensures ∙ ap (λ (p : Project). map (λ (w : Watch). w.place) p.watches) c.parts.ensures;
    stands_for = c.in_ok-controller.ensures.stands;
  },
)

pub returns : goal.returns
returns g c =
    IfOk-weaker c.tell_from.result _ _
    (λ told h. h c.args.project (record {
      places_are = c.in_ok-places.ensures ∙ ap (λ (p : Project). map (λ (w : Watch). w.place) p.watches) c.parts.ensures;
      stands_for = c.in_ok-controller.ensures.stands;
    }))
    c.tell_from.ensures
