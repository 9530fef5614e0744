use Rattle.lgx_answer.specs.Answered.{call_with}
use Rattle.cmd_run.proofs.Leads.{run_written}
use Rattle.cmd_run.proofs.command.run_and_write.Goals as goal

pub returns-in-Ok : goal.returns-in-Ok
returns-in-Ok g c =
    let is_text = c.of.ensures c.args.project c.args.script c.in-Ok.ensures.script c.in-Ok.ensures.follows c.in-Ok.ensures.complete in
    run_written c.args.project c.args.script _ (call_with (g.F.Files.told c.args.files.now) _ _ _ _) is_text c.write.ensures
