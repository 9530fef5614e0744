-- There are few words.
use Rattle.std.proofs.Common.{arith}
use Rattle.lgx_conn.proofs.Slots.{few_words, is_small}
use Rattle.lgx_conn.proofs.conns.Conns.new.Goals as goal

pub overflow_add-next : goal.overflow_add-next
overflow_add-next c =
    let most = few_words c.args.defs.now c.loop-def.def-index c.requires.few c.requires.small in
    let next = c.loop-def.invariant.next in
    let small = is_small c.args.defs.now c.loop-def.def-index c.def-item.result c.requires.small (omega arith) c.def-item.is in
    omega (arith, small.0)
