use Rattle.std.proofs.Common.{Err, subst}
use Rattle.lgx_io.specs.declared.sink.SinkFault.{SinkFault}
use Rattle.lgx_live.specs.Console.{Flushes}
use Rattle.cmd_live.proofs.Leaving.{left_written, left_unwritten}
use Rattle.cmd_live.proofs.process.leave.Goals as goal

pub returns-in-Ok : goal.returns-in-Ok
returns-in-Ok g c = left_written c.args.status _ _ _ c.in-Ok.ensures c.number.ensures

pub returns-in-Err-Failed : goal.returns-in-Err-Failed
returns-in-Err-Failed g c =
    let P : SinkFault → Type 0 = λ e. Flushes (g.C.Console.seen c.args.console.now) (g.C.Console.seen c.flush.new.self) (Err e) in
    left_unwritten c.args.status _ _ _ (subst P c.in-Err-Failed.field-0-is c.in-Err-Failed.ensures) c.number-in-Err-Failed.ensures
