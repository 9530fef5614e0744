use Rattle.std.proofs.Common.{◌≡◌, ℕ, List, length, get_or, ℤ, pos, sym, ap, ◌∙◌, arith}
use Rattle.std.proofs.Common.{w32}
use Rattle.std.proofs.lemmas.Int.{to_z-of_z}
use Rattle.std.proofs.lemmas.Option.{slice_get-get_or}
use Rattle.lgx_num.specs.declared.number.Kind.TheVariants.{Bool as KBool}
use Rattle.lgx_num.specs.declared.place.Place.{Place}
use Rattle.lgx_record.specs.EventLines.{with_event_lines}
use Rattle.lgx_record.specs.Changes.{numbers_at, change_line}
use Rattle.lgx_record.proofs.Changed.{number-at, length-numbers, compared-one, not_lone}
use Rattle.lgx_record.proofs.changes.compare_lone.Goals as goal

abbrev blank : Place
blank = record { kind = KBool; at = 0 }

pub read-number-requires : goal.read-number-requires
read-number-requires c = c.requires.inside.inside c.args.watch _ (slice_get-get_or c.args.places.now c.args.watch blank c.requires.known)

pub returns : goal.returns
returns c = λ s h.
    let places = c.args.places.now in
    let w = c.args.watch in
    let now = numbers_at s.image places in
    let values = c.args.values.now in
    let image = c.args.controller.now.parts.image in
    let few = c.requires.compared.many in
    let known = c.requires.known in
    let many : length values ≡ length now = few ∙ sym (length-numbers s.image places) in
    let passed = to_z-of_z w32 c.read-number.result (record { sfits = c.read-number.type_inv }) in
    compared-one c.args.log.now c.compare.new.log c.args.at values now w c.compare.new.value (omega arith) many
    (λ k below other. not_lone places values image w c.requires.compared c.requires.lone k (omega arith) other ∙ ap (λ (bytes : List ℕ). get_or (numbers_at bytes places) k (pos 0)) h.parts.image)
    (c.compare.ensures.value ∙ passed ∙ c.read-number.ensures s h ∙ sym (number-at s.image places w blank known))
    (c.compare.ensures.log ∙ ap (λ (v : ℤ). with_event_lines c.args.log.now c.args.at (change_line w (get_or values w (pos 0)) v)) (passed ∙ sym (c.compare.ensures.value ∙ passed)))
