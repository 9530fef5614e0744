use Rattle.std.proofs.Common.{arith}
use Rattle.std.specs.Prelude.{slice_index_or}
use Rattle.spec_schedule.specs.Counting.{uncounted}
use Rattle.lgx_laws.proofs.KeptOn.{kept_all}
use Rattle.lgx_laws.proofs.since.keep_all.Goals as goal

pub returns-clause-kept : goal.returns-clause-kept
returns-clause-kept c cs ns past shown held =
    let m = c.requires.many in
    let n = shown.many in
    let k = c.requires.kept in
    kept_all c.args.tasks.now c.args.e.now c.args.kept.now c.loop-t.kept cs ns past (omega arith) c.loop-t.auto.kept held
    (λ t within. c.loop-t.invariant.0 t (let e = c.loop-t-test.false in omega arith) (slice_index_or cs t uncounted) (shown.each t (omega arith)))
