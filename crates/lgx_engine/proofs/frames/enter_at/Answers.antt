use Rattle.std.proofs.Common.{true, [], ap, sym, ◌∙◌}
use Rattle.lgx_rung.specs.Tree.{end}
use Rattle.spec_scan.specs.Position.{ProgramRungs, Frame, NoZone, routine_rungs}
use Rattle.lgx_prog.specs.FlatProgram.{routine_at}
use Rattle.lgx_engine.proofs.Moving.{settles-in, room-in, enter-reads}
use Rattle.lgx_engine.proofs.frames.enter_at.Goals as goal

pub settle_frame-requires : goal.settle_frame-requires
settle_frame-requires c =
    let rungs : ProgramRungs = c.code.ensures.flat.0 in
    let f : Frame = record { routine = c.args.routine; zone = NoZone; inputs = []; returns = []; cursor = record { rungs = routine_rungs rungs c.args.routine; rest = end; on = true; forks = [] } } in
    room-in c.args.program.now c.code.result.now c.begin.new.frame f (c.code.ensures.value ∙ ap (λ d. (routine_at c.args.program.now d.routine).code) (sym c.begin.ensures))
    (enter-reads c.args.program.now rungs c.begin.new.frame c.args.routine c.code.ensures.flat.1 c.begin.ensures)

pub returns : goal.returns
returns c = λ rungs is.
    let f : Frame = record { routine = c.args.routine; zone = NoZone; inputs = []; returns = []; cursor = record { rungs = routine_rungs rungs c.args.routine; rest = end; on = true; forks = [] } } in
    settles-in c.args.program.now c.code.result.now c.begin.new.frame c.settle_frame.new.frame f (c.code.ensures.value ∙ ap (λ d. (routine_at c.args.program.now d.routine).code) (sym c.begin.ensures)) c.settle_frame.ensures
    (enter-reads c.args.program.now rungs c.begin.new.frame c.args.routine is c.begin.ensures)
