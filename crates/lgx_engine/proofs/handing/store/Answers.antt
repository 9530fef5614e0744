use Rattle.std.proofs.Common.{◌≡◌, ◌∙◌, ap, get_or, ℤ, pos, arith}
use Rattle.std.specs.Int.{w32}
use Rattle.std.proofs.lemmas.Int.{to_z-of_z}
use Rattle.lgx_num.specs.declared.number.Kind.TheVariants.{Bool as KBool}
use Rattle.lgx_num.specs.declared.place.Place.{Place}
use Rattle.lgx_num.specs.Image.{write}
use Rattle.lgx_image.proofs.Changes.{changes_follow_one_another}
use Rattle.lgx_engine.proofs.Stores.{stores_more}
use Rattle.lgx_engine.proofs.handing.store.Goals as goal

pub loop-number-preserved : goal.loop-number-preserved
loop-number-preserved c =
    let k = c.loop-number.number in
    let none : Place = record { kind = KBool; at = 0 } in
    let place : Place = get_or c.args.places.now k none in
    let value : ℤ = get_or c.args.numbers.now k (pos 0) in
    let bytes : c.put.new.self.bytes ≡ write c.loop-number.image.bytes place value =
    c.put.ensures.bytes ∙ ap (write c.loop-number.image.bytes place) (to_z-of_z w32 c.number_at.result (record { sfits = c.number_at.type_inv }) ∙ c.number_at.ensures) in
    record {
      len = c.put.ensures.only_marked.same_length ∙ c.loop-number.invariant.len;
      stores = rw bytes (stores_more c.args.image.now.bytes c.loop-number.image.bytes c.args.places.now c.args.numbers.now k none (pos 0) (omega arith) (omega arith) c.loop-number.invariant.stores);
      only_marked = changes_follow_one_another c.args.image.now c.loop-number.image c.put.new.self c.loop-number.invariant.only_marked c.put.ensures.only_marked;
    }
