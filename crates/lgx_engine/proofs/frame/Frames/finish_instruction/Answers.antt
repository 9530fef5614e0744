use Rattle.std.proofs.Common.{◌-◌, get_or, List, sym, subst, arith, ◌∷◌, refl}
use Rattle.lgx_engine.specs.Rows.{control_of}
use Rattle.lgx_engine.specs.Views.{FrameView}
use Rattle.lgx_engine.specs.Represents.{RepresentsFrames}
use Rattle.lgx_engine.specs.Steps.{frame_after, after_ins}
use Rattle.lgx_engine.proofs.Tops.{top_stepped}
use Rattle.lgx_engine.proofs.frame.Frames.finish_instruction.Goals as goal

pub returns-then-self-gt0-clause-represents : goal.returns-then-self-gt0-clause-represents
returns-then-self-gt0-clause-represents c = λ rungs at is.
    top_stepped c.args.program.now c.self.inside.slots c.self.inside.depth (get_or c.self.inside.slots (c.self.inside.depth - 1) c.index-self-self.result) _ c.index-self-self.result at.frame (frame_after rungs (control_of c.args.control) (after_ins at.frame at.rest c.args.on)) at.outer
    (omega (arith, c.if-self-gt0.true)) (omega (arith, c.self.invariant.0, c.self.invariant.1)) refl
    (subst (λ (cs : List FrameView). RepresentsFrames c.args.program.now cs (at.frame ∷ at.outer)) (sym c.self.view_is) at.represents)
    (λ s. c.step_on.ensures rungs (record { frame = at.frame; ins = at.ins; rest = at.rest; represents = s; before = at.before }) is)
