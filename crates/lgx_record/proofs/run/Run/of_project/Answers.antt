use Rattle.std.proofs.Common.{ℕ, List, [], refl, sym, ap, ◌∙◌, subst}
use Rattle.lgx_num.specs.declared.place.Place.{Place}
use Rattle.spec_machine.specs.State.{start}
use Rattle.lgx_record.specs.Changes.{numbers_at, AreInside, AreWatched}
use Rattle.lgx_record.specs.RunView.{run_view}
use Rattle.lgx_record.proofs.Taking.{are_inside}
use Rattle.lgx_record.proofs.Making.{still-stands, just-made}
use Rattle.lgx_record.proofs.run.Run.of_project.Goals as goal

pub watch_all-requires : goal.watch_all-requires
watch_all-requires c =
    subst (λ (ps : List Place). AreInside ps c.in_ok-controller.controller.parts.image.bytes) (sym c.places.ensures.value)
    (are_inside c.args.project c.in_ok-controller.ensures.stands.valid _ [] c.in_ok-controller.controller (rw c.parts.ensures at c.in_ok-names.ensures.watches) c.in_ok-controller.ensures.stands.represents)

pub numbers_at-requires : goal.numbers_at-requires
numbers_at-requires c =
    subst (λ (ps : List Place). AreInside ps c.clear_hits.new.self.parts.image.bytes) (sym c.places-2.ensures.value)
    (subst (λ (bytes : List ℕ). AreInside c.in_ok-names.watches bytes) (sym (c.clear_hits.ensures.bytes ∙ c.watch_all.ensures.bytes))
    (are_inside c.args.project c.in_ok-controller.ensures.stands.valid _ [] c.in_ok-controller.controller (rw c.parts.ensures at c.in_ok-names.ensures.watches) c.in_ok-controller.ensures.stands.represents))

pub invariant_of-result : goal.invariant_of-result
invariant_of-result c =
    let project = c.args.project in
    let watched = still-stands project [] c.in_ok-controller.controller c.watch_all.new.controller c.in_ok-controller.ensures.stands c.watch_all.ensures.represents c.watch_all.ensures.spent in
    let after = still-stands project [] c.watch_all.new.controller c.clear_hits.new.self watched c.clear_hits.ensures.represents c.clear_hits.ensures.spent in
    record {
      project = project;
      events = [];
      run = just-made (run_view c.clear_hits.new.self c.in_ok-names.names 0 c.in_ok-names.watches c.in_ok-values.values.items) project after (rw c.parts.ensures at c.in_ok-names.ensures.names) refl (rw c.parts.ensures at c.in_ok-names.ensures.watches)
          (c.in_ok-values.ensures (start project) after.represents ∙ ap (numbers_at (start project).image) c.places-2.ensures.value)
          (subst (AreWatched c.in_ok-names.watches) (sym c.clear_hits.ensures.watched) (subst (λ (ps : List Place). AreWatched ps c.watch_all.new.controller.parts.image.watched) c.places.ensures.value c.watch_all.ensures.watched))
          c.clear_hits.ensures.none_hit;
    }

pub returns : goal.returns
returns c =
    let project = c.args.project in
    let watched = still-stands project [] c.in_ok-controller.controller c.watch_all.new.controller c.in_ok-controller.ensures.stands c.watch_all.ensures.represents c.watch_all.ensures.spent in
    let after = still-stands project [] c.watch_all.new.controller c.clear_hits.new.self watched c.clear_hits.ensures.represents c.clear_hits.ensures.spent in
    just-made (run_view c.clear_hits.new.self c.in_ok-names.names 0 c.in_ok-names.watches c.in_ok-values.values.items) project after (rw c.parts.ensures at c.in_ok-names.ensures.names) refl (rw c.parts.ensures at c.in_ok-names.ensures.watches)
    (c.in_ok-values.ensures (start project) after.represents ∙ ap (numbers_at (start project).image) c.places-2.ensures.value)
    (subst (AreWatched c.in_ok-names.watches) (sym c.clear_hits.ensures.watched) (subst (λ (ps : List Place). AreWatched ps c.watch_all.new.controller.parts.image.watched) c.places.ensures.value c.watch_all.ensures.watched))
    c.clear_hits.ensures.none_hit
