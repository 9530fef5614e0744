use Rattle.std.proofs.Common.{rules, arith}
use Rattle.lgx_declare.proofs.Taken.{index_more}
use Rattle.lgx_declare.proofs.names.all_names.Goals as goal

pub loop-i-preserved : goal.loop-i-preserved
loop-i-preserved g c =
    let more = index_more g.T.Named.name_of c.args.things.now c.loop-i.index c.loop-i.i c.index-things-i.result c.name.result.now (omega arith) c.index-things-i.is c.name.ensures c.loop-i.invariant in
    search rules
