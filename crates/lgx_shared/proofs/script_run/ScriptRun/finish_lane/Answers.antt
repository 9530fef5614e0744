-- A turn that made an event leaves fewer to come.
use Rattle.lgx_lanes.specs.declared.turn.Turn.TheVariants.{Did, Helped}
use Rattle.lgx_shared.specs.ScriptRun.{as_recorder}
use Rattle.lgx_shared.proofs.Finishing.{goes_further, any_served_on, did_fewer, helped_fewer, done_is}
use Rattle.lgx_shared.proofs.script_run.ScriptRun.finish_lane.Goals as goal

pub loop-smaller-in-Did : goal.loop-smaller-in-Did
loop-smaller-in-Did c =
    did_fewer c.args.lane c.loop.self c.serve.new.self c.law_of_runs.ensures c.in-Did.ensures.turn c.in-Did.ensures.follows

pub loop-smaller : goal.loop-smaller
loop-smaller c =
    helped_fewer c.args.lane c.loop.self c.serve.new.self c.law_of_runs.ensures c.in-Helped.ensures.turn c.in-Helped.ensures.follows

pub loop-preserved-in-Did : goal.loop-preserved-in-Did
loop-preserved-in-Did c = (
  λ p s f. c.in-Did.ensures.follows p s (c.loop.invariant.0 p s f),
  goes_further (as_recorder c.args.self.now) (as_recorder c.loop.self) (as_recorder c.serve.new.self) c.loop.invariant.1
      (any_served_on c.args.lane c.loop.self Did c.serve.new.self c.law_of_runs.ensures c.in-Did.ensures.turn),
)

pub loop-preserved : goal.loop-preserved
loop-preserved c = (
  λ p s f. c.in-Helped.ensures.follows p s (c.loop.invariant.0 p s f),
  goes_further (as_recorder c.args.self.now) (as_recorder c.loop.self) (as_recorder c.serve.new.self) c.loop.invariant.1
      (any_served_on c.args.lane c.loop.self Helped c.serve.new.self c.law_of_runs.ensures c.in-Helped.ensures.turn),
)

pub returns-in-Done-clause-done : goal.returns-in-Done-clause-done
returns-in-Done-clause-done c = λ p s f. done_is p s c.args.lane (as_recorder c.loop.self) (as_recorder c.serve.new.self) (c.in-Done.ensures.turn p s (c.loop.invariant.0 p s f))

pub returns-in-Memory-clause-follows : goal.returns-in-Memory-clause-follows
returns-in-Memory-clause-follows c = λ p s f. c.in-Memory.ensures.follows p s (c.loop.invariant.0 p s f)
