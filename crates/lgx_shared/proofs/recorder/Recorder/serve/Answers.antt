-- What the run's turn does, the recorder's does.
use Rattle.std.proofs.Common.{false, Some, None, sym, ap, ◌∙◌}
use Rattle.lgx_shared.specs.Stages.{recorder_at}
use Rattle.lgx_shared.proofs.Stages.{follows_with, serves_with}
use Rattle.lgx_shared.proofs.recorder.Recorder.serve.Goals as goal
use Rattle.lgx_shared.proofs.recorder.Recorder.serve.Goals.{in-Unshared, in-Closed}

pub returns-clause-turn : goal.returns-clause-turn
returns-clause-turn c =
    elim c.match-self.branch [
      | in-Unshared w ↦
          rw w.result-is
          (rw w.self-inside-is
          (serves_with false (Some w.in-Unshared.field-1) w.in-Unshared.run' w.serve.new.self c.args.self.now (ap recorder_at (sym w.in-Unshared.is) ∙ c.self.view_is) c.args.lane w.serve.result w.serve.ensures.turn))
      | in-Closed w ↦
          rw w.result-is
          (rw w.self-inside-is
          (serves_with w.in-Closed.field-1 None w.in-Closed.run' w.serve-in-Closed.new.self c.args.self.now (ap recorder_at (sym w.in-Closed.is) ∙ c.self.view_is) c.args.lane w.serve-in-Closed.result w.serve-in-Closed.ensures.turn))
    ]

pub returns-clause-follows : goal.returns-clause-follows
returns-clause-follows c =
    elim c.match-self.branch [
      | in-Unshared w ↦
          rw w.self-inside-is
          (follows_with false (Some w.in-Unshared.field-1) w.in-Unshared.run' w.serve.new.self c.args.self.now (ap recorder_at (sym w.in-Unshared.is) ∙ c.self.view_is) w.serve.ensures.follows)
      | in-Closed w ↦
          rw w.self-inside-is
          (follows_with w.in-Closed.field-1 None w.in-Closed.run' w.serve-in-Closed.new.self c.args.self.now (ap recorder_at (sym w.in-Closed.is) ∙ c.self.view_is) w.serve-in-Closed.ensures.follows)
    ]
