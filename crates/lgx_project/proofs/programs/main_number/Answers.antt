use Rattle.std.proofs.Common.{arith, sym}
use Rattle.lgx_project.proofs.Mains.{main_found, main_missing}
use Rattle.lgx_project.proofs.programs.main_number.Goals as goal

pub returns-then-same : goal.returns-then-same
returns-then-same c =
    main_found c.args.program.now c.loop-i.i c.as_slice-routine-items.result.now c.routine-item.result c.as_slice-routine-items.ensures c.loop-i.invariant (omega arith) c.routine-item.is (sym c.if-same.ensures)

pub returns : goal.returns
returns c = main_missing c.args.program.now c.loop-i.i c.as_slice-routine-items.result.now c.as_slice-routine-items.ensures c.loop-i.invariant (omega arith)
