use Rattle.std.proofs.Common.{◌<◌, arith}
use Rattle.spec_tables.specs.Tasks.{is_continuous}
use Rattle.lgx_laws.proofs.Masks.{mask_more, mask_fits}
use Rattle.lgx_laws.proofs.StartsAt.{comes, comes_at}
use Rattle.lgx_laws.proofs.starts.run_mask.Goals as goal

pub overflow_add-mask : goal.overflow_add-mask
overflow_add-mask c =
    let t = c.loop-t.t in
    let few = c.requires.few in
    let below : t < 32 = (let e = c.loop-t-test.true in omega arith) in
    let is = comes_at is_continuous c.args.tasks.now c.args.counts.now _ t c.comes_up_at_run-test.result c.loop-t-test.true c.comes_up_at_run-test.ensures in
    let same = mask_more (comes is_continuous c.args.tasks.now c.args.counts.now) t c.loop-t.mask c.bit_if-mask.result c.comes_up_at_run-test.result c.loop-t.invariant is c.bit_if-mask.ensures in
    let fits = mask_fits (comes is_continuous c.args.tasks.now c.args.counts.now) t below in
    record { fits = omega arith }

pub loop-t-preserved : goal.loop-t-preserved
loop-t-preserved c =
    let t = c.loop-t.t in
    let is = comes_at is_continuous c.args.tasks.now c.args.counts.now _ t c.comes_up_at_run-test.result c.loop-t-test.true c.comes_up_at_run-test.ensures in
    mask_more (comes is_continuous c.args.tasks.now c.args.counts.now) t c.loop-t.mask c.bit_if-mask.result c.comes_up_at_run-test.result c.loop-t.invariant is c.bit_if-mask.ensures
