use Rattle.std.proofs.Common.{◌≡◌, ◌/◌, ◌<◌, Bool, true, List, length, take, get_or, refl, sym, ap, ◌∙◌, subst, add-one, take_all, arith}
use Rattle.std.proofs.lemmas.Option.{slice_get-get_or}
use Rattle.lgx_num.specs.Image.{InBounds}
use Rattle.lgx_num.specs.Number.{bytes_in}
use Rattle.lgx_num.specs.declared.place.Place.{Place}
use Rattle.lgx_image.specs.Grains.{ImageView, is_marked}
use Rattle.lgx_image.proofs.Marks.{watch_range-stays}
use Rattle.lgx_record.specs.Changes.{AreWatched}
use Rattle.lgx_record.proofs.Watching.{blank, none-watched, one-more-watched}
use Rattle.lgx_record.proofs.changes.watch_all.Goals as goal

pub watch-requires : goal.watch-requires
watch-requires c =
    let bytes = c.loop-place.invariant.bytes in
    subst (λ n. InBounds (get_or c.args.places.now c.loop-place.place-index blank) n) (ap length (sym bytes))
    (c.requires.inside c.loop-place.place-index _ (slice_get-get_or c.args.places.now c.loop-place.place-index blank (omega arith)))

pub loop-place-init : goal.loop-place-init
loop-place-init c = record {
  represents = λ s h. h;
  spent = refl;
  bytes = refl;
  watched = none-watched c.args.places.now c.args.controller.now.parts.image.watched;
}

pub loop-place-preserved : goal.loop-place-preserved
loop-place-preserved c =
    let places = c.args.places.now in
    let i = c.loop-place.place-index in
    let old = c.loop-place.controller.parts.image.watched in
    let new = c.watch.new.self.parts.image.watched in
    let image = c.watch.ensures.image in
    let before = c.loop-place.invariant in
    let below : i < length places = omega arith in
    let place = get_or places i blank in
    record {
      represents = λ s h. c.watch.ensures.represents s (before.represents s h);
      spent = c.watch.ensures.spent ∙ before.spent;
      bytes = ap (λ (v : ImageView). v.bytes) image ∙ before.bytes;
      watched =
          subst (λ n. AreWatched (take n places) new) (sym (add-one i))
          (one-more-watched old new
          (λ word seen. subst (λ (watched : List Bool). is_marked watched word ≡ true) (sym (ap (λ (v : ImageView). v.watched) image)) (watch_range-stays old (place.at / 8) (bytes_in place.kind) word seen))
          places i below before.watched c.watch.ensures.watched);
    }

pub returns : goal.returns
returns c =
    let end = c.loop-place.invariant in
    record {
      represents = end.represents;
      spent = end.spent;
      bytes = end.bytes;
      watched = subst (λ (ps : List Place). AreWatched ps c.loop-place.controller.parts.image.watched) (take_all c.loop-place.place-index c.args.places.now (omega arith)) end.watched;
    }
