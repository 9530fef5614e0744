use Rattle.std.proofs.Common.{◌≡◌, ℕ, ◌<◌, ◌≤◌, List, length, get_or, ℤ, pos, sym, ap, ◌∙◌, arith}
use Rattle.std.proofs.Common.{w32}
use Rattle.std.proofs.lemmas.Int.{to_z-of_z}
use Rattle.std.proofs.lemmas.Option.{slice_get-get_or}
use Rattle.lgx_record.specs.EventLines.{with_event_lines}
use Rattle.lgx_num.specs.declared.number.Kind.TheVariants.{Bool as KBool}
use Rattle.lgx_num.specs.declared.place.Place.{Place}
use Rattle.lgx_record.specs.Changes.{numbers_at, change_line}
use Rattle.lgx_record.proofs.Changed.{number-at, length-numbers, walk-compares, walk-ends, not_written}
use Rattle.lgx_record.proofs.changes.compare_all.Goals as goal

abbrev blank : Place
blank = record { kind = KBool; at = 0 }

pub read-number-requires : goal.read-number-requires
read-number-requires c =
    let below : c.in-Some.watch < length c.args.places.now = c.requires.written.known c.in-Some.watch c.in-Some.ensures.next.1 in
    c.requires.inside.inside c.in-Some.watch _ (slice_get-get_or c.args.places.now c.in-Some.watch blank below)

pub loop-watch-preserved : goal.loop-watch-preserved
loop-watch-preserved c =
    let places = c.args.places.now in
    let w = c.in-Some.watch in
    let below : w < length places = c.requires.written.known w c.in-Some.ensures.next.1 in
    let past : c.loop-watch.from ≤ w = c.in-Some.ensures.next.0 in
    record {
      so_far = λ s h. (
          let now = numbers_at s.image places in
          let many : length c.args.values.now ≡ length now = c.requires.compared.many ∙ sym (length-numbers s.image places) in
          let passed = to_z-of_z w32 c.read-number.result (record { sfits = c.read-number.type_inv }) in
          walk-compares c.args.log.now c.loop-watch.log c.compare.new.log c.args.at c.args.values.now c.loop-watch.values now c.loop-watch.from w c.compare.new.value (c.loop-watch.invariant.so_far s h) past (omega arith) many c.loop-watch.auto.values
          (λ k above under. not_written places c.args.values.now c.args.controller.now.parts.image c.args.written.now c.requires.compared c.requires.written k (omega arith) (c.in-Some.ensures.next.2 k above under) ∙ ap (λ (image : List ℕ). get_or (numbers_at image places) k (pos 0)) h.parts.image)
          (c.compare.ensures.value ∙ passed ∙ c.read-number.ensures s h ∙ sym (number-at s.image places w blank below))
          (c.compare.ensures.log ∙ ap (λ (v : ℤ). with_event_lines c.loop-watch.log c.args.at (change_line w (get_or c.loop-watch.values w (pos 0)) v)) (passed ∙ sym (c.compare.ensures.value ∙ passed)))
          );
      within = omega arith;
      lost = (let more = c.compare.ensures.lost in let before = c.loop-watch.invariant.lost in omega arith);
    }

pub returns : goal.returns
returns c = λ s h.
    let places = c.args.places.now in
    let now = numbers_at s.image places in
    let many : length c.args.values.now ≡ length now = c.requires.compared.many ∙ sym (length-numbers s.image places) in
    let few = c.requires.compared.many in
    walk-ends c.args.log.now c.loop-watch.log c.args.at c.args.values.now c.loop-watch.values now c.loop-watch.from (c.loop-watch.invariant.so_far s h) (let l = c.loop-watch.invariant.within in omega arith) many c.loop-watch.auto.values
    (λ k above below. not_written places c.args.values.now c.args.controller.now.parts.image c.args.written.now c.requires.compared c.requires.written k (omega arith) (c.in_default.ensures.next k above) ∙ ap (λ (image : List ℕ). get_or (numbers_at image places) k (pos 0)) h.parts.image)
