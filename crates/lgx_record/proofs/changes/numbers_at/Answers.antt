use Rattle.std.proofs.Common.{List, [], ◌∷◌, ◌++◌, get_or, ℤ, sym, ap, ◌∙◌, arith}
use Rattle.std.proofs.Common.{w32}
use Rattle.std.proofs.lemmas.Int.{to_z-of_z}
use Rattle.std.proofs.lemmas.Option.{slice_get-get_or}
use Rattle.lgx_num.specs.Image.{number}
use Rattle.lgx_num.specs.declared.number.Kind.TheVariants.{Bool as KBool}
use Rattle.lgx_num.specs.declared.place.Place.{Place}
use Rattle.lgx_record.proofs.Changed.{numbers-more}
use Rattle.lgx_record.proofs.changes.numbers_at.Goals as goal

abbrev blank : Place
blank = record { kind = KBool; at = 0 }

pub read-requires : goal.read-requires
read-requires c = c.requires.inside c.loop-place.place-index _ (slice_get-get_or c.args.places.now c.loop-place.place-index blank (omega arith))

pub loop-place-preserved : goal.loop-place-preserved
loop-place-preserved c = λ s h.
    c.in_ok-push.ensures.items
    ∙ ap (λ (n : ℤ). c.loop-place.numbers.items ++ n ∷ []) (to_z-of_z w32 c.read.result (record { sfits = c.read.type_inv }) ∙ c.read.ensures s h)
    ∙ ap (λ (ns : List ℤ). ns ++ number s.image (get_or c.args.places.now c.loop-place.place-index blank) ∷ []) (c.loop-place.invariant s h)
    ∙ sym (numbers-more s.image c.args.places.now c.loop-place.place-index blank (omega arith))
