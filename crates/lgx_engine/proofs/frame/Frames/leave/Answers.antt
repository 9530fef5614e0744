use Rattle.std.proofs.Common.{◌==◌, ◌-◌, drop, sym, ap, ◌∙◌, arith}
use Rattle.lgx_engine.proofs.Tops.{left_one, taken_length}
use Rattle.lgx_engine.proofs.frame.Frames.leave.Goals as goal

pub returns-clause-frames : goal.returns-clause-frames
returns-clause-frames c =
    rw c.saturating_sub-self-inside.ensures (left_one c.self.inside.slots c.self.inside.depth (omega (arith, c.self.invariant.0, c.self.invariant.1)) ∙ ap (drop 1) c.self.view_is)

pub returns-clause-last : goal.returns-clause-last
returns-clause-last c =
    rw c.saturating_sub-self-inside.ensures (ap (λ n. n == 0) (sym (taken_length c.self.inside.slots (c.self.inside.depth - 1) (omega (arith, c.self.invariant.0, c.self.invariant.1)))))
