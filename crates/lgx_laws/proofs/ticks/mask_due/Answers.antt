use Rattle.std.proofs.Common.{◌<◌, arith}
use Rattle.lgx_laws.proofs.Masks.{due_and, due_at, mask_more, mask_fits}
use Rattle.lgx_laws.proofs.ticks.mask_due.Goals as goal

pub overflow_add-mask : goal.overflow_add-mask
overflow_add-mask c =
    let t = c.loop-t.t in
    let few = c.requires.few in
    let below : t < 32 = (let e = c.loop-t-test.true in omega arith) in
    let is = due_at c.args.tasks.now c.args.counts.now c.args.run c.args.up _ t c.is_due_and-test.result c.loop-t-test.true c.is_due_and-test.ensures in
    let same = mask_more (due_and c.args.tasks.now c.args.counts.now c.args.run c.args.up) t c.loop-t.mask c.bit_if-mask.result c.is_due_and-test.result c.loop-t.invariant is c.bit_if-mask.ensures in
    let fits = mask_fits (due_and c.args.tasks.now c.args.counts.now c.args.run c.args.up) t below in
    record { fits = omega arith }

pub loop-t-preserved : goal.loop-t-preserved
loop-t-preserved c =
    let t = c.loop-t.t in
    let is = due_at c.args.tasks.now c.args.counts.now c.args.run c.args.up _ t c.is_due_and-test.result c.loop-t-test.true c.is_due_and-test.ensures in
    mask_more (due_and c.args.tasks.now c.args.counts.now c.args.run c.args.up) t c.loop-t.mask c.bit_if-mask.result c.is_due_and-test.result c.loop-t.invariant is c.bit_if-mask.ensures
