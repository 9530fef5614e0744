use Rattle.std.proofs.Common.{length, sym, ap, ◌∙◌, arith}
use Rattle.lgx_engine.proofs.Tops.{taken_length}
use Rattle.lgx_engine.proofs.frame.Frames.len.Goals as goal

pub returns-clause-value : goal.returns-clause-value
returns-clause-value c = sym (taken_length c.self.inside.slots c.self.inside.depth (omega (arith, c.self.invariant.0, c.self.invariant.1))) ∙ ap length c.self.view_is
