use Rattle.cmd_run.proofs.lanes.run_script.Goals as goal

pub returns-clause-follows : goal.returns-clause-follows
returns-clause-follows g c = c.finish.ensures.follows c.args.project c.args.script c.in_ok-recorder.ensures.follows

pub returns-clause-complete : goal.returns-clause-complete
returns-clause-complete g c = c.in_ok-finish.ensures.complete c.args.project c.args.script c.in_ok-recorder.ensures.follows
