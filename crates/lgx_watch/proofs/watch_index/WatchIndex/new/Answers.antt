use Rattle.std.proofs.Common.{◌≡◌, arith}
use Rattle.std.proofs.lemmas.Grind.{common_steps}
use Rattle.lgx_watch.proofs.Rows.{whole_index, one_more_place}
use Rattle.lgx_watch.proofs.watch_index.WatchIndex.new.Goals as goal

pub loop-number-preserved : goal.loop-number-preserved
loop-number-preserved c =
    one_more_place c.args.places.now c.loop-number.number _ c.loop-number.rows.len c.loop-number.rows.items c.deref_mut.result.now c.add_place.new.rows c.loop-number-test.true c.deref_mut.ensures.value c.add_place.ensures (omega (arith, c.add_place.ensures.len)) c.loop-number.invariant

pub invariant_of-result : goal.invariant_of-result
invariant_of-result c =
    let same : c.extend_from_slice.new.self.items ≡ c.args.places.now = grind (arith, common_steps) in
    (whole_index c.args.places.now c.extend_from_slice.new.self.items c.loop-number.rows.items c.loop-number.number same (omega arith) c.requires c.loop-number.invariant, rw (← c.deref.ensures.value) c.in_ok-lones.ensures)
