use Rattle.std.proofs.Common.{◌∙◌, sym, arith, rules}
use Rattle.lgx_project.proofs.Spelled.{rungs_go_on, sources_more}
use Rattle.lgx_project.proofs.routines.read_source.Goals as goal

pub loop-i-preserved : goal.loop-i-preserved
loop-i-preserved c =
    let spelled = c.in-Ok.ensures.1 in
    let more = sources_more c.args.texts.now c.loop-i.i c.index-texts-i.result c.in-Ok.rung (omega arith) c.index-texts-i.is (rw (← c.as_slice.ensures) spelled) in
    let go_on = rungs_go_on c.args.texts.now c.loop-i.i c.index-texts-i.result (omega arith) c.index-texts-i.is (rw (← c.as_slice.ensures) c.in-Ok.ensures.0) in
    record { goes = sym go_on ∙ c.loop-i.invariant.goes; made = search rules }
