-- One number more, till all are read.
use Rattle.std.proofs.Common.{ap, map, w32, ◌∙◌, arith}
use Rattle.std.proofs.lemmas.Int.{to_z-of_z}
use Rattle.std.proofs.lemmas.List.{get_or_default, take_all}
use Rattle.std.proofs.lemmas.Option.{slice_get-get_or}
use Rattle.lgx_num.specs.Image.{number}
use Rattle.lgx_walker.proofs.Seeing.{number_more}
use Rattle.lgx_walker.proofs.places.read_numbers.Goals as goal

pub loop-place-preserved : goal.loop-place-preserved
loop-place-preserved c = λ s stands inside.
    let i = c.loop-place.place-index in
    number_more (number s.image) c.args.places.now i _ _ _ _ c.loop-place-test.true (get_or_default c.args.places.now i _ _ c.loop-place-test.true) (c.loop-place.invariant s stands inside) c.in_ok-push.ensures.items
    (to_z-of_z w32 c.number_at.result (record { sfits = c.number_at.type_inv }) ∙ c.number_at.ensures s stands (inside i _ (slice_get-get_or c.args.places.now i _ c.loop-place-test.true)))

pub returns : goal.returns
returns c = λ s stands inside.
    c.loop-place.invariant s stands inside ∙ ap (map (number s.image)) (take_all c.loop-place.place-index c.args.places.now (let h = c.loop-place-test.false in omega arith))
