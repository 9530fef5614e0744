use Rattle.std.proofs.Common.{arith}
use Rattle.lgx_record.proofs.Stretched.{begin-logged, begins-lost, none-logged}
use Rattle.lgx_record.proofs.lines.log_begins.Goals as goal

pub loop-i-preserved : goal.loop-i-preserved
loop-i-preserved c = record {
  lines = begin-logged c.args.log.now c.loop-i.log c.log_begin.new.log c.args.from.tick c.args.from.step c.args.begins.now.began c.args.begins.now.steps.items c.as_slice-steps.result.now c.loop-i.i c.as_slice-steps.ensures.value c.loop-i-test.true c.loop-i.invariant.lines c.log_begin.ensures.log;
  lost = (let more = c.log_begin.ensures.lost in let before = c.loop-i.invariant.lost in omega arith);
}

pub lose-requires-clause-full : goal.lose-requires-clause-full
lose-requires-clause-full c = c.is_full.ensures.full c.if-is_full.true

pub returns-in-Began-clause-log : goal.returns-in-Began-clause-log
returns-in-Began-clause-log c =
    begins-lost c.args.log.now c.lose.new.self c.args.from.tick c.args.from.step c.args.begins.now.began c.in-Began.task c.in-Began.program c.in-Began.version c.args.begins.now.steps.items c.as_slice-steps.result.now
    c.as_slice-steps.ensures.value c.in-Began.is (c.is_full.ensures.full c.if-is_full.true) c.lose.ensures

pub returns-in_default : goal.returns-in_default
returns-in_default c = record {
  log = none-logged c.args.log.now c.args.from.tick c.args.from.step c.args.begins.now.began c.args.begins.now.steps.items (λ t p v is. c.in_default.not-Began t p v is);
  lost = omega arith;
}
