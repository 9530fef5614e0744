use Rattle.std.proofs.Common.{rules, arith}
use Rattle.lgx_declare.proofs.Taken.{index_more, names_go_on}
use Rattle.lgx_declare.proofs.names.add_names.Goals as goal

pub returns-in_err-refuse_taken : goal.returns-in_err-refuse_taken
returns-in_err-refuse_taken g c =
    let goes = names_go_on g.T.Named.name_of c.args.things.now c.loop-i.index c.loop-i.i c.index-things-i.result c.name-name.result.now (omega arith) c.index-things-i.is c.name-name.ensures c.loop-i.invariant.index c.loop-i.invariant.goes in
    search rules

pub loop-i-preserved : goal.loop-i-preserved
loop-i-preserved g c =
    let things = c.args.things.now in
    let f = g.T.Named.name_of in
    let goes = names_go_on f things c.loop-i.index c.loop-i.i c.index-things-i.result c.name-name.result.now (omega arith) c.index-things-i.is c.name-name.ensures c.loop-i.invariant.index c.loop-i.invariant.goes in
    let more = index_more f things c.loop-i.index c.loop-i.i c.index-things-i.result c.name-name.result.now (omega arith) c.index-things-i.is c.name-name.ensures c.loop-i.invariant.index in
    record { goes = search rules; index = search rules }
