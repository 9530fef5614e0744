use Rattle.std.proofs.Common.{ap}
use Rattle.lgx_image.specs.Grains.{ImageView}
use Rattle.lgx_engine.proofs.Operands.{timer_in_bounds, counter_in_bounds, can_be_reset}
use Rattle.lgx_engine.proofs.FamilyRows.{timer_rows, math_rows, control_rows}
use Rattle.lgx_engine.proofs.row.execute.Goals as goal

pub count_time-requires-clause-lies : goal.count_time-requires-clause-lies
count_time-requires-clause-lies c = rw c.at.ensures (timer_in_bounds c.args.ins.now.op c.args.bound.now _ c.in-Timer.ensures c.requires.fit c.requires.lie)

pub run_counter-requires-clause-lies : goal.run_counter-requires-clause-lies
run_counter-requires-clause-lies c =
    rw (c.byte.ensures, c.at-in-Counter.ensures) (counter_in_bounds c.args.ins.now.op c.args.bound.now _ c.in-Counter.ensures c.requires.fit c.requires.lie)

pub clear-requires-clause-kind : goal.clear-requires-clause-kind
clear-requires-clause-kind c = rw c.at-in-Reset.ensures (can_be_reset c.args.ins.now.op c.args.bound.now c.in-Reset.ensures c.requires.fit)

pub returns-in-Timer-clause-row : goal.returns-in-Timer-clause-row
returns-in-Timer-clause-row c = λ frames.
    let counted = rw c.at.ensures at c.count_time.ensures.counted in
    let fault = rw c.at.ensures at c.count_time.ensures.fault in
    rw c.pass_on-in-Timer.ensures
    (timer_rows c.args.ins.now.args c.args.bound.now c.args.input.on c.args.input.scan.now c.args.input.scan.first frames c.args.flags.now c.args.image.now.bytes c.requires.bound c.args.ins.now.op c.count_time.new.image.bytes c.count_time.result c.in-Timer.ensures c.requires.acts counted (λ none. ((fault none).0, ap (λ (m : ImageView). m.bytes) (fault none).1)))

pub returns-in-Arithmetic-clause-row : goal.returns-in-Arithmetic-clause-row
returns-in-Arithmetic-clause-row c = λ frames.
    rw c.pass_on-in-Arithmetic.ensures
    (math_rows c.args.ins.now.args c.args.bound.now c.args.input.on c.args.input.scan.now c.args.input.scan.first frames c.args.flags.now c.args.image.now.bytes c.requires.bound c.args.ins.now.op c.compute.new.flags c.compute.new.image.bytes c.compute.result c.in-Arithmetic.ensures c.requires.acts c.compute.ensures.due c.compute.ensures.flags c.compute.ensures.bytes)

pub returns-in-ProgramControl-clause-row : goal.returns-in-ProgramControl-clause-row
returns-in-ProgramControl-clause-row c = λ frames.
    rw c.pass_on-in-ProgramControl.ensures
    (control_rows c.args.ins.now.args c.args.bound.now c.args.input.on c.args.input.scan.now c.args.input.scan.first frames c.args.flags.now c.args.image.now.bytes c.requires.bound c.args.ins.now.op c.program_control.result c.in-ProgramControl.ensures c.requires.alone c.requires.acts
    (c.program_control.ensures.rows c.args.input.on c.args.input.scan.now c.args.input.scan.first frames c.args.flags.now c.args.image.now.bytes c.args.bound.now c.requires.acts c.requires.bound))
