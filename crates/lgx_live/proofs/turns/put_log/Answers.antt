use Rattle.lgx_live.proofs.Runs.{log_stops, log_more, log_cut}
use Rattle.lgx_live.proofs.turns.put_log.Goals as goal

pub returns-in-Err : goal.returns-in-Err
returns-in-Err g c = log_stops _ _ c.args.names.now c.args.log.now.lines c.loop-i.i c.loop-i.invariant

pub returns-in-Err-put : goal.returns-in-Err-put
returns-in-Err-put g c =
    log_cut _ _ _ _ c.args.names.now c.args.log.now.lines c.loop-i.i c.clear.new.self.items c.push_line_text.new.text.items c.deref.result.now c.loop-i.invariant c.clear.ensures.items c.in-Ok.ensures c.deref.ensures.value c.in-Err-put.ensures

pub loop-i-preserved : goal.loop-i-preserved
loop-i-preserved g c =
    log_more _ _ _ c.args.names.now c.args.log.now.lines c.loop-i.i c.clear.new.self.items c.push_line_text.new.text.items c.deref.result.now c.loop-i.invariant c.clear.ensures.items c.in-Ok.ensures c.deref.ensures.value c.in-Ok-put.ensures
